use Rattle.std.proofs.Common.{◌≡◌, ◌≤◌, length, take}
use Rattle.snapshot.specs.Listing.{cleared_all}
use Rattle.apply.specs.Marks.{Right, listed_in}
use Rattle.apply.proofs.listing.Listing.kept.Given as goal

abbrev pub invariant-loop-rank : goal.invariant-loop-rank
invariant-loop-rank g l = record {
  few : l.n ≤ l.rank;
  right : Right (listed_in g.V.Venue.form l.self.m.now) l.last;
  counted : l.n ≡ length (cleared_all (listed_in g.V.Venue.form l.self.m.now) (take l.rank (g.B.Book.ladder l.book)));
}
