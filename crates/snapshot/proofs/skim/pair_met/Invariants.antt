use Rattle.snapshot.proofs.Skims.{ListsLeft}
use Rattle.snapshot.proofs.skim.pair_met.Given as goal

abbrev pub invariant-loop : goal.invariant-loop
invariant-loop g l = ListsLeft g.V.Venue.form l.m l.upto l.pair l.n 11 l.counter l.at
