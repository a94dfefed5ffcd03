use Rattle.message.proofs.Lawful.{layout_laws}
use Rattle.message.proofs.laws.layouts_hold.Goals as goal

pub returns : goal.returns
returns g c = layout_laws g.V.Venue.form
