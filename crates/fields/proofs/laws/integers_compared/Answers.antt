use Rattle.std.proofs.Common.{ap}
use Rattle.std.proofs.lemmas.Bool.Decides.{Decides-eqb, Decides-like}
use Rattle.fields.proofs.Sames.{integer_same}
use Rattle.fields.proofs.laws.integers_compared.Goals as goal

pub returns : goal.returns
returns g c a b = Decides-like _ (λ h. integer_same g.row.W a b h) (λ e. ap (λ v. v.value) e) (Decides-eqb a.value b.value)
