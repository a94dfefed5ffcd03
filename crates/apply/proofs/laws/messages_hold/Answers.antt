use Rattle.apply.proofs.Saying.{message_laws}
use Rattle.apply.proofs.laws.messages_hold.Goals as goal

pub returns : goal.returns
returns g c = message_laws g.V.Venue.form
