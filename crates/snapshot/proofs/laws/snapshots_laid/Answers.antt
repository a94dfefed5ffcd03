use Rattle.snapshot.proofs.Lawful.{snapshot_laws}
use Rattle.snapshot.proofs.laws.snapshots_laid.Goals as goal

pub returns : goal.returns
returns g c = snapshot_laws g.V.Venue.form
