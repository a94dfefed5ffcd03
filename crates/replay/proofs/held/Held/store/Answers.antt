use Rattle.std.proofs.Common.{◌≡◌, length, arith, rules}
use Rattle.replay.proofs.Fills.{fill_past}
use Rattle.replay.proofs.held.Held.store.Goals as goal

pub returns-clause-stored : goal.returns-clause-stored
returns-clause-stored c =
    let xs = c.args.self.now.bytes in
    let long : length xs ≡ 49152 = omega arith in
    fill_past 49152 c.min-at.result xs c.args.piece.now long c.args.self.now.count c.min-at.ensures c.min-n.result c.copy_from_slice.new.self c.min-n.ensures (search rules)
