use Rattle.snapshot.specs.Snapshot.{order_at}
use Rattle.snapshot.proofs.Walks.{TurnsLeft}
use Rattle.snapshot.proofs.walk.orders.Given as goal

abbrev pub invariant-loop : goal.invariant-loop
invariant-loop g l = TurnsLeft (g.K.Task.steps l.m) (order_at g.V.Venue.form l.m l.level.pair l.level.side l.level.price) l.n l.initial.at l.initial.state l.counter l.at l.state
