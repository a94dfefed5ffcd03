use Rattle.venue.proofs.Tailed.{venue_laws}
use Rattle.venue.proofs.laws.venues_hold.Goals as goal

pub returns : goal.returns
returns c = venue_laws
