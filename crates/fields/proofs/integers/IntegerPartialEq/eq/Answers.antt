use Rattle.std.proofs.Common.{ap, sym, subst, ◌≡◌, Decides}
use Rattle.std.proofs.lemmas.Bool.Decides.{Decides-eqb, Decides-like}
use Rattle.fields.proofs.Sames.{integer_same}
use Rattle.fields.proofs.integers.IntegerPartialEq.eq.Goals as goal

pub returns-clause-same : goal.returns-clause-same
returns-clause-same g c =
    subst (λ t. Decides t (c.args.self.now ≡ c.args.other.now)) (sym c.eq.ensures)
    (Decides-like _ (integer_same g.row.W c.args.self.now c.args.other.now) (λ e. ap (λ v. v.value) e) (Decides-eqb c.args.self.now.value c.args.other.now.value))
