use Rattle.snapshot.specs.Snapshot.{pair_at}
use Rattle.snapshot.proofs.Walks.{TurnsLeft}
use Rattle.snapshot.proofs.walk.pairs.Given as goal

abbrev pub invariant-loop : goal.invariant-loop
invariant-loop g l = TurnsLeft (g.K.Task.steps l.m) (pair_at g.V.Venue.form l.m) l.n l.initial.at l.initial.state l.counter l.at l.state
