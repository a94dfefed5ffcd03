use Rattle.fields.proofs.Codecs.{decimal_codec}
use Rattle.fields.proofs.laws.decimals_hold.Goals as goal

pub returns : goal.returns
returns g c = decimal_codec g.K.DecimalKind
