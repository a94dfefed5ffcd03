-- What a reader of a field says where its answer is taken by `ok` and `?`.
use Rattle.std.proofs.Common.{◌≡◌, ℕ, List, Some, None, Ok, Err, Result, subst}
use Rattle.std.specs.Result.{result_ok}
use Rattle.fields.specs.declared.fault.Fault.{Fault}
use Rattle.fields.specs.Calls.{Reads}

module _ {V X : Type 0} (Field : List ℕ → X → Type 0) (value : V → X) (bs : List ℕ) where
  pub read_as : (r : Result V Fault) (v : V) → Reads Field value bs r → Some v ≡ result_ok r → Field bs (value v)
  read_as (Ok w) v h e = let same : w ≡ v = cc in subst (λ z. Field bs (value z)) same h
  read_as (Err f) v h e = absurd (cc)

  pub not_read : (r : Result V Fault) → Reads Field value bs r → None ≡ result_ok r → (x : X) → Field bs x → ⊥
  not_read (Ok w) h e = absurd (cc)
  not_read (Err f) h e = h.1
