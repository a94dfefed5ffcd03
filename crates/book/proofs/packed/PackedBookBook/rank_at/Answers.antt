use Rattle.std.proofs.Common.{◌≡◌, ℕ, ◌<◌, ◌≤◌, Option, true, false, not, length, slice_index_or, vec_items, take, sym, ap, subst, rules, arith}
use Rattle.std.specs.List.Sorted.{IsPartitionedBy, IsPartitionPoint}
use Rattle.std.proofs.lemmas.List.Sorted.{IsPartitionPoint-from_clause}
use Rattle.std.specs.Bool.{then_some}
use Rattle.book.specs.Calls.{Finds}
use Rattle.book.specs.Ladder.{at_level}
use Rattle.book.specs.Rows.{orders}
use Rattle.book.specs.RowTests.{row_from, FrontWithin}
use Rattle.book.specs.Packing.{ladder_sorted, level_parted, level_nowhere, level_told}
use Rattle.book.proofs.Prefix.{front_parted, front_point}
use Rattle.book.proofs.packed.PackedBookBook.rank_at.Goals as goal

pub returns-in_err-row : goal.returns-in_err-row
returns-in_err-row g c =
    let b = c.args.self.now in
    let rs = vec_items b.rows in
    let k = c.partition_point-rank.result in
    let n = c.front_within-end.result in
    let sorted = ladder_sorted g.T.Terms.given rs b.ladder in
    let parted = level_parted g.T.Terms.given c.args.pair c.args.side c.args.price rs b.ladder.formed sorted in
    let within = subst (λ z. FrontWithin c.args.pair c.args.side c.args.price z n) c.deref.ensures.value c.front_within-end.ensures in
    let front = subst (λ z. IsPartitionedBy (λ x. not (row_from c.args.pair c.args.side c.args.price x)) (take n z)) (sym c.deref-2.ensures.value) (front_parted (λ x. not (row_from c.args.pair c.args.side c.args.price x)) rs n within.0 parted) in
    let point = IsPartitionPoint-from_clause (λ x. not (row_from c.args.pair c.args.side c.args.price x)) (take n c.deref-2.result.now) k c.partition_point-rank.ensures.partitioned front (λ a t f' h. search rules) in
    let bound = subst (λ z. k ≤ length (take n z)) c.deref-2.ensures.value c.partition_point-rank.ensures.bound in
    let split = front_point (λ x. not (row_from c.args.pair c.args.side c.args.price x)) rs n within.0 parted (λ m d. ap not (within.1 m d)) k bound
    (subst (λ z. IsPartitionPoint (λ x. not (row_from c.args.pair c.args.side c.args.price x) ≡ true) (λ x. not (row_from c.args.pair c.args.side c.args.price x) ≡ false) (take n z) k) c.deref-2.ensures.value point) in
    let past = subst (λ z. length z ≤ k) c.deref-3.ensures.value c.in_err-row.ensures.lookup.3 in
    subst (λ z. Finds (at_level c.args.pair c.args.side c.args.price) (orders g.T.Terms.given rs b.ladder.formed) z) (sym c.from_residual.ensures)
    (level_nowhere g.T.Terms.given c.args.pair c.args.side c.args.price rs b.ladder.formed sorted k split (λ m. absurd (omega arith)))

pub returns : goal.returns
returns g c =
    let b = c.args.self.now in
    let rs = vec_items b.rows in
    let k = c.partition_point-rank.result in
    let n = c.front_within-end.result in
    let sorted = ladder_sorted g.T.Terms.given rs b.ladder in
    let parted = level_parted g.T.Terms.given c.args.pair c.args.side c.args.price rs b.ladder.formed sorted in
    let within = subst (λ z. FrontWithin c.args.pair c.args.side c.args.price z n) c.deref.ensures.value c.front_within-end.ensures in
    let front = subst (λ z. IsPartitionedBy (λ x. not (row_from c.args.pair c.args.side c.args.price x)) (take n z)) (sym c.deref-2.ensures.value) (front_parted (λ x. not (row_from c.args.pair c.args.side c.args.price x)) rs n within.0 parted) in
    let point = IsPartitionPoint-from_clause (λ x. not (row_from c.args.pair c.args.side c.args.price x)) (take n c.deref-2.result.now) k c.partition_point-rank.ensures.partitioned front (λ a t f' h. search rules) in
    let bound = subst (λ z. k ≤ length (take n z)) c.deref-2.ensures.value c.partition_point-rank.ensures.bound in
    let split = front_point (λ x. not (row_from c.args.pair c.args.side c.args.price x)) rs n within.0 parted (λ m d. ap not (within.1 m d)) k bound
    (subst (λ z. IsPartitionPoint (λ x. not (row_from c.args.pair c.args.side c.args.price x) ≡ true) (λ x. not (row_from c.args.pair c.args.side c.args.price x) ≡ false) (take n z) k) c.deref-2.ensures.value point) in
    let here = subst (λ z. (k < length z) × (c.in_ok-row.row.now ≡ slice_index_or z k c.in_ok-row.row.now)) c.deref-3.ensures.value (c.in_ok-row.ensures.lookup.3.0, c.in_ok-row.ensures.lookup.1) in
    let told : (z : Option ℕ) → z ≡ then_some c.is_at_level.result k → Finds (at_level c.args.pair c.args.side c.args.price) (orders g.T.Terms.given rs b.ladder.formed) z =
    λ z e. subst (λ y. Finds (at_level c.args.pair c.args.side c.args.price) (orders g.T.Terms.given rs b.ladder.formed) y) (sym e)
    (level_told g.T.Terms.given c.args.pair c.args.side c.args.price rs b.ladder.formed sorted k c.in_ok-row.row.now c.is_at_level.result here.0 here.1 c.is_at_level.ensures split) in
    told c.then_some.result (grind arith)
