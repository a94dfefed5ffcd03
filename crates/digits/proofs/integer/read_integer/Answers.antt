use Rattle.digits.proofs.Onlys.{only_like}
use Rattle.digits.proofs.integer.read_integer.Goals as goal

pub returns : goal.returns
returns c = only_like _ _ (λ n w. (c.if-s-gt18.false, w.0, w.1)) (λ n w. (w.1, w.2)) _ c.value.ensures
