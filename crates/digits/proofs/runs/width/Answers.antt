use Rattle.std.proofs.Common.{◌+◌, ap, ◌∙◌, arith}
use Rattle.digits.proofs.Writes.{length_by_log}
use Rattle.digits.proofs.runs.width.Goals as goal

pub returns : goal.returns
returns c =
    let e = c.checked_ilog10.ensures in
    ap (λ k. k + 1) c.unwrap_or.ensures ∙ length_by_log _ c.args.n (omega arith) e.none e.power_le e.next_power_gt
