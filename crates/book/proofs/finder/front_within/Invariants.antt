use Rattle.std.proofs.Common.{◌-◌, length}
use Rattle.book.proofs.finder.front_within.Given as goal

abbrev pub decreases-loop-end : goal.decreases-loop-end
decreases-loop-end g l = length l.rows - l.end
