use Rattle.std.proofs.Common.{◌≡◌, length, arith, rules}
use Rattle.snapshot.proofs.Skims.{compared}
use Rattle.snapshot.proofs.skim.Sought.is_at.Goals as goal

pub returns : goal.returns
returns c =
    let long : length c.args.self.now.id.now ≡ 15 = search rules in
    compared c.args.self.now.m.now c.args.self.now.id.now 15 c.args.at c.same_at.result (omega arith) long c.same_at.ensures
