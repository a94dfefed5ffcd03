-- Reading a message field by field. Offsets are counted in the message.
use Rattle.std.specs.Prelude.{ℕ, ◌+◌, cond, List, length, take, drop, Some, None, Ok, Err, Option, Result, ◌==◌, nat_le}
use Rattle.message.specs.declared.fault.MessageFault.{MessageFault}
use Rattle.message.specs.declared.fault.MessageFault.TheVariants.{WrongLength, BadField, Miscounted}
use Rattle.venue.specs.Form as venue

infixr 20 ◌▷◌
-- a value, or the fault that is met first
abbrev pub Reading : Type 0 → Type 0
Reading A = Result A MessageFault

-- first x, then f with its value
abbrev pub ◌▷◌ : {A B : Type 0} → Reading A → (A → Reading B) → Reading B
◌▷◌ (Ok x) f = f x
◌▷◌ (Err e) f = Err e

-- the field of w bytes at p
abbrev pub field : ℕ → ℕ → List ℕ → List ℕ
field p w m = take w (drop p m)

abbrev pub in_form : {A : Type 0} → ℕ → Option A → Reading A
in_form p (Some v) = Ok v
in_form p None = Err (BadField p)

abbrev pub in_tail : {A : Type 0} → ℕ → Result A ℕ → Reading A
in_tail p (Ok v) = Ok v
in_tail p (Err k) = Err (BadField (p + k))

-- the field of w bytes at p: 25 where it is cut short, 23 where it is not in form
unfoldable pub value_at : {A : Type 0} → List ℕ → ℕ → (List ℕ → Option A) → ℕ → Reading A
value_at m w f p = cond (nat_le (p + w) (length m)) (in_form p (f (field p w m))) (Err (Miscounted p))

-- the tail at p, one field to 25, and whose first field that is not in form is the venue's to name
unfoldable pub tail_at : {T : Type 0} → venue.Form T → List ℕ → ℕ → Reading T
tail_at F m p = cond (nat_le (p + F.width) (length m)) (in_tail p (F.reads (field p F.width m))) (Err (Miscounted p))

-- a message of n bytes: 22 where it has another length
abbrev pub sized : {A : Type 0} → List ℕ → ℕ → Reading A → Reading A
sized m n r = cond (length m == n) r (Err WrongLength)
