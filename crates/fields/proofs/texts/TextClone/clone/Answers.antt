use Rattle.std.proofs.Common.{refl}
use Rattle.fields.proofs.Sames.{text_same}
use Rattle.fields.proofs.texts.TextClone.clone.Goals as goal

pub returns : goal.returns
returns g c = record { cases = text_same g.row.N g.K.TextKind _ c.args.self.now refl }
