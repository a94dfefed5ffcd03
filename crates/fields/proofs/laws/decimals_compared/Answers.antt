use Rattle.std.proofs.Common.{ap}
use Rattle.std.proofs.lemmas.Bool.Decides.{Decides-eqb, Decides-like}
use Rattle.fields.proofs.Sames.{decimal_same}
use Rattle.fields.proofs.laws.decimals_compared.Goals as goal

pub returns : goal.returns
returns g c a b = Decides-like _ (decimal_same g.K.DecimalKind a b) (λ e. ap (λ v. v.count) e) (Decides-eqb a.count b.count)
