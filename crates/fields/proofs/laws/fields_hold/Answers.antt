use Rattle.fields.proofs.Codecs.{field_laws}
use Rattle.fields.proofs.laws.fields_hold.Goals as goal

pub returns : goal.returns
returns c = field_laws
