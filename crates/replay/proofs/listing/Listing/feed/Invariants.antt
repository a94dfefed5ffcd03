use Rattle.std.proofs.Common.{length}
use Rattle.replay.proofs.listing.Listing.feed.Given as goal

abbrev pub decreases-loop-cut : goal.decreases-loop-cut
decreases-loop-cut g l = length l.rest
