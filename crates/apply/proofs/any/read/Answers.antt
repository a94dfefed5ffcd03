use Rattle.std.proofs.Common.{sym, subst}
use Rattle.apply.specs.Reads.{Exactly}
use Rattle.apply.proofs.Saying.{exactly}
use Rattle.apply.proofs.any.read.Goals as goal

pub returns-clause-exact : goal.returns-clause-exact
returns-clause-exact g c = subst (Exactly g.V.Venue.form c.args.m.now) (sym c.read_any.ensures) (exactly g.V.Venue.form c.args.m.now)
