use Rattle.snapshot.specs.Snapshot.{level_at}
use Rattle.snapshot.proofs.Walks.{TurnsLeft}
use Rattle.snapshot.proofs.walk.levels.Given as goal

abbrev pub invariant-loop : goal.invariant-loop
invariant-loop g l = TurnsLeft (g.K.Task.steps l.m) (level_at g.V.Venue.form l.m l.of.pair l.of.side) l.n l.initial.at l.initial.state l.counter l.at l.state
