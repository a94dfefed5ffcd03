use Rattle.std.proofs.Common.{◌≡◌, ◌+◌, ◌*◌, ◌^◌, ◌<◌, ◌++◌, take, drop}
use Rattle.digits.specs.Numerals.{front, read_on}
use Rattle.digits.proofs.runs.read_digits.Given as goal

abbrev pub invariant-loop-count : goal.invariant-loop-count
invariant-loop-count l = record {
  digits : front l.s ≡ take l.count l.s ++ front (drop l.count l.s);
  number : l.n ≡ read_on l.fn.n (take l.count l.s);
  bound : l.n < (l.fn.n + 1) * 10 ^ l.count;
}
