use Rattle.digits.proofs.Onlys.{only_like}
use Rattle.digits.proofs.texts.DecimalForm.find.Goals as goal

pub returns : goal.returns
returns c = only_like _ _ (λ n d. record { long = c.if-s-self.false; decimal = d }) (λ n f. f.decimal) _ c.count.ensures
