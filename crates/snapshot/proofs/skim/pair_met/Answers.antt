use Rattle.std.proofs.Common.{true, false, arith}
use Rattle.snapshot.proofs.Skims.{compared, pairs_done, pairs_past, pairs_here, pairs_next, snapshot_listed}
use Rattle.snapshot.proofs.skim.pair_met.Goals as goal

pub returns-then-at-upto : goal.returns-then-at-upto
returns-then-at-upto g c = snapshot_listed g.V.Venue.form c.args.m.now c.args.upto c.args.pair.now c.count_at-n.result false c.count_at-n.ensures.read (pairs_past g.V.Venue.form c.args.m.now c.args.upto c.args.pair.now c.count_at-n.result 11 c.loop.counter c.loop.at c.if-at-upto.true c.loop.invariant)

pub returns-then-same_at : goal.returns-then-same_at
returns-then-same_at g c =
    snapshot_listed g.V.Venue.form c.args.m.now c.args.upto c.args.pair.now c.count_at-n.result true c.count_at-n.ensures.read
    (pairs_here g.V.Venue.form c.args.m.now c.args.upto c.args.pair.now c.count_at-n.result 11 c.loop.counter c.loop.at c.loop-test.true (omega arith) c.same_at.result
    (compared c.args.m.now c.args.pair.now 7 c.loop.at c.same_at.result (omega arith) c.told-pair c.same_at.ensures) c.if-same_at.true c.loop.invariant)

pub loop-preserved : goal.loop-preserved
loop-preserved g c =
    pairs_next g.V.Venue.form c.args.m.now c.args.upto c.args.pair.now c.count_at-n.result 11 c.loop.counter c.loop.at c.loop-test.true (omega arith) c.same_at.result
    (compared c.args.m.now c.args.pair.now 7 c.loop.at c.same_at.result (omega arith) c.told-pair c.same_at.ensures) c.pair_end-at.result c.if-same_at.false c.pair_end-at.ensures c.loop.invariant

pub returns : goal.returns
returns g c = snapshot_listed g.V.Venue.form c.args.m.now c.args.upto c.args.pair.now c.count_at-n.result false c.count_at-n.ensures.read (pairs_done g.V.Venue.form c.args.m.now c.args.upto c.args.pair.now c.count_at-n.result 11 c.loop.counter c.loop.at c.loop-test.false c.loop.invariant)
