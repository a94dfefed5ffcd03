use Rattle.std.proofs.Common.{false}
use Rattle.apply.specs.Marks.{marks}
use Rattle.apply.proofs.Counted.{whole}
use Rattle.apply.proofs.Seeks.{seek_runs}
use Rattle.apply.proofs.listing.Listing.lists.Goals as goal

pub returns : goal.returns
returns g c =
    let F = g.V.Venue.form in
    let m = c.args.self.now.m.now in
    let w = whole F m c.args.self.now.counts c.args.self.now.was_checked in
    seek_runs (record { pair = c.args.pair; listed = false }) c.visit_marks.new.state (marks F m) (c.visit_marks.ensures.done (marks F m) w.end w.read)
