-- Answers that may be none.
use Rattle.std.proofs.Common.{ℕ, Bool, true, false, Some, None, Option, Decides, MatchOption, refl}
use Rattle.std.specs.Bool.{then_some}
use Rattle.std.proofs.lemmas.Bool.Decides.{not_from_Decides}
use Rattle.digits.specs.Calls.{Only}

-- the only number that is such, under two descriptions of it
pub only_like : (Is Has : ℕ → Type 0) → ((n : ℕ) → Is n → Has n) → ((n : ℕ) → Has n → Is n) → (r : Option ℕ) → Only Is r → Only Has r
only_like Is Has to from (Some n) h = (to n h.0, λ m k. h.1 m (from m k))
only_like Is Has to from None h = λ m k. h m (from m k)

-- an answer where a test says so
pub then_found : {X P : Type 0} (No : Type 0) (Found : X → Type 0) (b : Bool) (x : X) → Decides b P → (P → Found x) → ((P → ⊥) → No) → MatchOption (then_some b x) No Found
then_found No Found true x d found none = found (d.0 refl)
then_found No Found false x d found none = none (not_from_Decides false d refl)
