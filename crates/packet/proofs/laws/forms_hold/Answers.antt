use Rattle.packet.proofs.Forms.{form_laws}
use Rattle.packet.proofs.laws.forms_hold.Goals as goal

pub returns : goal.returns
returns c = form_laws
