use Rattle.fields.proofs.Codecs.{text_codec}
use Rattle.fields.proofs.laws.texts_hold.Goals as goal

pub returns : goal.returns
returns g c = text_codec g.row.N g.K.TextKind g.met.K.TextKind.laws
