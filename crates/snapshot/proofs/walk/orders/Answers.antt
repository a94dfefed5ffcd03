use Rattle.std.proofs.Common.{Err, ap, ◌∙◌}
use Rattle.std.proofs.lemmas.Result.{err_from_is_err_and}
use Rattle.snapshot.specs.Snapshot.{order_at}
use Rattle.snapshot.proofs.Walks.{turns_stop}
use Rattle.snapshot.proofs.walk.orders.Goals as goal

pub returns-in_err-at : goal.returns-in_err-at
returns-in_err-at g c =
    let p = err_from_is_err_and c.from_residual.result c.from_residual.ensures.1 in
    turns_stop (g.K.Task.steps c.args.m.now) (order_at g.V.Venue.form c.args.m.now c.args.level.now.pair c.args.level.now.side c.args.level.now.price) c.args.n c.args.at c.args.state.now
    c.loop.counter c.loop.at c.loop.state c.loop.invariant c.loop-test.true _ _ _ c.in_err-at.ensures (p.1 ∙ ap Err p.2)
