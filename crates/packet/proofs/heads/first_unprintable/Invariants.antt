use Rattle.packet.specs.Layouts.{PrintableTo}
use Rattle.packet.proofs.heads.first_unprintable.Given as goal

abbrev pub invariant-loop-i : goal.invariant-loop-i
invariant-loop-i l = PrintableTo l.body l.i
