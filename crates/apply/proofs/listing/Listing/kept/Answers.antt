use Rattle.std.proofs.Common.{◌≡◌, ◌+◌, ◌≤◌, length, sym, ap, ◌∙◌, arith}
use Rattle.apply.specs.Marks.{listed_in}
use Rattle.apply.proofs.Keeping.{one, kept_step, cleared_none}
use Rattle.apply.proofs.listing.Listing.kept.Goals as goal
use Rattle.apply.proofs.listing.Listing.kept.Goals.{then-is_unlisted, else-is_unlisted}

pub loop-rank-init : goal.loop-rank-init
loop-rank-init g c = record { few = omega arith; right = tt; counted = sym (ap length (cleared_none (listed_in g.V.Venue.form c.args.self.now.m.now))) }

pub loop-rank-preserved : goal.loop-rank-preserved
loop-rank-preserved g c =
    let ps = listed_in g.V.Venue.form c.args.self.now.m.now in
    let was = c.loop-rank.invariant in
    let way : c.if-is_unlisted.n ≡ c.loop-rank.n + one c.is_unlisted.result = elim c.if-is_unlisted.branch [
      | then-is_unlisted w ↦ let z = ap one w.if-is_unlisted.true in omega (arith, w.n-is)
      | else-is_unlisted w ↦ let z = ap one w.if-is_unlisted.false in omega (arith, w.n-is)
    ] in
    let more : c.if-is_unlisted.n ≤ c.loop-rank.n + 1 = elim c.if-is_unlisted.branch [ then-is_unlisted w ↦ omega (arith, w.n-is) | else-is_unlisted w ↦ omega (arith, w.n-is) ] in
    record {
      few = omega (arith, more, was.few);
      right = c.ask_at-last.ensures.right was.right;
      counted = kept_step ps (g.B.Book.ladder c.args.book.now) c.loop-rank.rank c.loop-rank.n c.if-is_unlisted.n c.is_unlisted.result was.counted (c.is_unlisted.ensures ∙ c.ask_at-last.ensures.stays was.right) way;
    }
