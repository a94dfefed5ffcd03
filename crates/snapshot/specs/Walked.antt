-- A walk over what is listed, which does something at each mark.
use Rattle.std.specs.Prelude.{◌≡◌, ℕ, List, [], ◌∷◌, Ok, Err, Result}
use Rattle.message.specs.declared.fault.MessageFault.{MessageFault}
use Rattle.snapshot.specs.Scanning.{Scan}

-- from s to s' by a step at each of the list
abbrev pub Runs : {S A : Type 0} → (S → A → S → Type 0) → S → List A → S → Type 0
Runs R s [] s' = s' ≡ s
Runs {S} R s (x ∷ xs) s' = (t : S) × R s x t × Runs R t xs s'

-- the offset after what is read
abbrev pub ends : {A : Type 0} → Scan A → Result ℕ MessageFault
ends (Ok x) = Ok x.1
ends (Err e) = Err e

-- the answer is where the scan ends, or its fault; where it ends, a step was done at each that it lists, in turn
pub record Walked {S A : Type 0} (R : S → A → S → Type 0) (x : Scan (List A)) (s : S) (r : Result ℕ MessageFault) (s' : S) : Type 0 where
  pub answer : r ≡ ends x
  pub done : (ms : List A) (e : ℕ) → x ≡ Ok (ms, e) → Runs R s ms s'
