use Rattle.std.proofs.Common.{ap}
use Rattle.std.proofs.lemmas.Bool.Decides.{same_from_decides}
use Rattle.std.specs.Cmp.Lexicographic.{bytes_decides}
use Rattle.fields.proofs.Sames.{text_same}
use Rattle.fields.proofs.texts.TextPartialEq.eq.Goals as goal

pub returns-clause-same : goal.returns-clause-same
returns-clause-same g c = (
  λ t. text_same g.row.N g.K.TextKind c.args.self.now c.args.other.now (c.same_bytes.ensures.0 t),
  λ e. c.same_bytes.ensures.1 (ap (λ v. v.bytes) e),
)

pub returns-clause-value : goal.returns-clause-value
returns-clause-value g c = same_from_decides _ _ c.same_bytes.ensures (bytes_decides _ _)
