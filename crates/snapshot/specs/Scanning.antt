-- Reading a snapshot field by field, each from where the last one ended. Offsets are counted in the message.
use Rattle.std.specs.Prelude.{ℕ, zero, suc, ◌+◌, List, [], ◌++◌, Ok, Err, Option}
use Rattle.message.specs.Reading.{Reading, ◌▷◌, value_at, tail_at}
use Rattle.venue.specs.Form as venue

infixr 20 ◌▸◌
infixr 20 ◌⨟◌
-- a value and the offset after it, or the fault that is met first
abbrev pub Scan : Type 0 → Type 0
Scan A = Reading (A × ℕ)

-- first x, then f with its value, from the offset after it
abbrev pub ◌▸◌ : {A B : Type 0} → Scan A → (A → ℕ → Scan B) → Scan B
◌▸◌ (Ok x) f = f x.0 x.1
◌▸◌ (Err e) f = Err e

-- first x, then f from the offset after it; what both list, together
abbrev pub ◌⨟◌ : {A : Type 0} → Scan (List A) → (ℕ → Scan (List A)) → Scan (List A)
x ⨟ f = x ▸ λ xs p. f p ▸ λ ys e. Ok (xs ++ ys, e)

-- the field of w bytes at p
unfoldable pub field_at : {A : Type 0} → List ℕ → ℕ → (List ℕ → Option A) → ℕ → Scan A
field_at m w f p = value_at m w f p ▷ λ v. Ok (v, p + w)

-- the venue's tail at p
unfoldable pub tail_then : {T : Type 0} → venue.Form T → List ℕ → ℕ → Scan T
tail_then F m p = tail_at F m p ▷ λ t. Ok (t, p + F.width)

-- n of what r lists, one after another
unfoldable pub times : {A : Type 0} → (ℕ → Scan (List A)) → ℕ → ℕ → Scan (List A)
times r zero p = Ok ([], p)
times r (suc n) p = r p ⨟ λ q. times r n q
