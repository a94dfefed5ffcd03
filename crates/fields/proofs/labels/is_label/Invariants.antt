use Rattle.std.proofs.Common.{ℕ, ◌<◌, get_or}
use Rattle.fields.specs.Bytes.{Printable}
use Rattle.fields.proofs.labels.is_label.Given as goal

abbrev pub invariant-loop-b : goal.invariant-loop-b
invariant-loop-b l = (k : ℕ) → k < l.b-index → Printable (get_or l.s k 0)
