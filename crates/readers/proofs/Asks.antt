-- What a reader of `fields` answers is what the field reads.
use Rattle.std.proofs.Common.{◌≡◌, ℕ, List, Some, None, Ok, Err, Option, Result, sym, refl}
use Rattle.std.specs.Result.{result_ok}
use Rattle.fields.specs.declared.fault.Fault.{Fault}
use Rattle.fields.specs.Calls.{Reads}
use Rattle.readers.specs.Laws.{FieldLaw}

absent : {V : Type 0} (o : Option V) → ((v : V) → o ≡ Some v → ⊥) → None ≡ o
absent None not_so = refl
absent (Some v) not_so = absurd (not_so v refl)

pub asked : {V X : Type 0} {w : ℕ} (Field : List ℕ → X → Type 0) (value : V → X) {reads : List ℕ → Option V} → FieldLaw w (λ bs v. Field bs (value v)) reads → (bs : List ℕ) (r : Result V Fault) → Reads Field value bs r → result_ok r ≡ reads bs
asked Field value law bs (Ok v) h = sym (law.complete bs v h)
asked Field value {reads} law bs (Err e) h = absent (reads bs) (λ v is. h.1 (value v) (law.sound bs v is))
