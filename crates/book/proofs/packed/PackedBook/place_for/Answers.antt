use Rattle.std.proofs.Common.{◌≡◌, ℕ, vec_items, sym, subst, rules, arith}
use Rattle.std.specs.List.Sorted.{IsPartitionedBy}
use Rattle.std.proofs.lemmas.List.Sorted.{IsPartitionPoint-from_clause}
use Rattle.book.specs.RowTests.{row_ahead, AheadOf}
use Rattle.book.specs.Packing.{ladder_sorted, ahead_parted}
use Rattle.book.proofs.packed.PackedBook.place_for.Goals as goal

pub returns : goal.returns
returns g c =
    let b = c.args.self.now in
    let o = c.args.order.now in
    let rs = vec_items b.rows in
    let k = c.partition_point.result in
    let parted = subst (λ z. IsPartitionedBy (λ x. row_ahead x o) z) (sym c.deref.ensures.value) (ahead_parted g.T.Terms.given o rs b.ladder.formed (ladder_sorted g.T.Terms.given rs b.ladder)) in
    let p = IsPartitionPoint-from_clause (λ x. row_ahead x o) c.deref.result.now k c.partition_point.ensures.partitioned parted (λ a r f' h. search rules) in
    let at : (z : ℕ) → z ≡ k → AheadOf o rs z = λ z e. subst (λ y. AheadOf o rs y) (sym e) (subst (λ y. AheadOf o y k) c.deref.ensures.value (c.partition_point.ensures.bound, p.0, λ l d. p.1 k d (omega arith) l)) in
    search (arith, rules, at)
