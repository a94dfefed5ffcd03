use Rattle.std.proofs.Common.{drop}
use Rattle.std.specs.List.{AllByRecursion}
use Rattle.digits.specs.Bytes.{Space}
use Rattle.digits.proofs.runs.all_spaces.Given as goal

abbrev pub invariant-loop-b : goal.invariant-loop-b
invariant-loop-b l =
    (AllByRecursion Space (drop l.b-index l.s) → AllByRecursion Space l.s) × (AllByRecursion Space l.s → AllByRecursion Space (drop l.b-index l.s))
