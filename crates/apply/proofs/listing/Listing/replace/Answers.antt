use Rattle.std.proofs.Common.{◌≤◌, sym, ◌∙◌, subst}
use Rattle.snapshot.specs.Listing.{pairs_listed, cleared_all, room_needed}
use Rattle.snapshot.proofs.Repeating.{apart_put, none_distinct}
use Rattle.apply.specs.Marks.{marks}
use Rattle.apply.proofs.Counted.{whole}
use Rattle.apply.proofs.Keeping.{clear_runs, place_runs, place_runs_capacity, new_put}
use Rattle.apply.proofs.Wholes.{read_listed}
use Rattle.apply.proofs.listing.Listing.replace.Goals as goal

pub returns : goal.returns
returns g c =
    let F = g.V.Venue.form in
    let m = c.args.self.now.m.now in
    let ladder = g.B.Book.ladder in
    let capacity = g.B.Book.capacity in
    let b = c.args.book.now in
    let mid = c.visit_marks.new.state in
    let end = c.visit_marks-2.new.state in
    let ms = marks F m in
    let w = whole F m c.args.self.now.counts c.args.self.now.was_checked in
    let d = none_distinct ms w.none in
    let cleared = clear_runs ladder capacity b mid ms (c.visit_marks.ensures.done ms w.end w.read) in
    let placed = c.visit_marks-2.ensures.done ms w.end w.read in
    record {
      ladder = λ fits.
          place_runs ladder capacity mid end ms (cleared_all (pairs_listed ms) (ladder b)) cleared.0 (apart_put ms d) (new_put (ladder b) ms d (read_listed F m ms w.end w.read))
          (subst (λ n. room_needed ms (ladder b) ≤ n) (sym cleared.1) fits) placed;
      kept = place_runs_capacity ladder capacity mid end ms placed ∙ cleared.1;
    }
