use Rattle.std.proofs.Common.{◌≡◌, ◌-◌}
use Rattle.snapshot.specs.Skims.{strided}
use Rattle.snapshot.proofs.skim.Sought.met.Given as goal

-- what is left gives the same answer as the whole
abbrev pub invariant-loop : goal.invariant-loop
invariant-loop l = strided l.self.m.now l.self.upto l.self.id.now l.step l.n l.from ≡ strided l.self.m.now l.self.upto l.self.id.now l.step (l.n - l.counter) l.at
