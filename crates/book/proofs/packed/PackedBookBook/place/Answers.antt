use Rattle.std.proofs.Common.{◌≡◌, ◌+◌, cond, vec_items, vec_len, sym, refl, ap, ◌∙◌, inl, inr, arith}
use Rattle.std.specs.List.{insert}
use Rattle.std.proofs.lemmas.Bool.{leb-true, leb-false}
use Rattle.book.specs.Ladders.{finds_stands}
use Rattle.book.specs.Rows.{orders, order_row}
use Rattle.book.specs.Packing.{orders_length, inserted_holds}
use Rattle.book.proofs.packed.PackedBookBook.place.Goals as goal

pub returns-then-is_some-clause-place : goal.returns-then-is_some-clause-place
returns-then-is_some-clause-place g c =
    let b = c.args.self.now in
    let o = c.args.order.now in
    let l = orders g.T.Terms.given (vec_items b.rows) b.ladder.formed in
    (inl (refl, finds_stands o.pair o.id l c.rank_of.result c.rank_of.ensures ∙ sym c.if-is_some.ensures), refl)

pub returns-then-is_full-clause-place : goal.returns-then-is_full-clause-place
returns-then-is_full-clause-place g c =
    let b = c.args.self.now in
    let o = c.args.order.now in
    let l = orders g.T.Terms.given (vec_items b.rows) b.ladder.formed in
    let full = leb-true c.capacity.result c.len.result (sym c.if-is_full.ensures) in
    (inr (refl, finds_stands o.pair o.id l c.rank_of.result c.rank_of.ensures ∙ sym c.if-is_some.ensures, omega (arith, b.rows.ok.0, orders_length g.T.Terms.given (vec_items b.rows) b.ladder.formed)), refl)

pub invariant_of-self : goal.invariant_of-self
invariant_of-self g c =
    let b = c.args.self.now in
    let o = c.args.order.now in
    let rs = vec_items b.rows in
    let l = orders g.T.Terms.given rs b.ladder.formed in
    let none = finds_stands o.pair o.id l c.rank_of.result c.rank_of.ensures ∙ sym c.if-is_some.ensures in
    let rank = c.place_for-rank.result in
    let left = leb-false c.capacity.result c.len.result (sym c.if-is_full.ensures) in
    let ok = c.insert.ensures.succeeds (omega (arith, orders_length g.T.Terms.given rs b.ladder.formed, b.rows.ok.0, c.len.ensures, c.capacity.ensures)) in
    let items : vec_items c.insert.new.self ≡ insert rs rank (order_row g.T.Terms.row o) =
    c.insert.ensures.items ∙ ap (λ t. cond t (insert rs rank c.to_row.result) rs) ok ∙ ap (insert rs rank) c.to_row.ensures in
    let h = inserted_holds g.T.Terms.given rs b.ladder g.T.Terms.row g.met.T.Terms.back o rank c.place_for-rank.ensures none (vec_items c.insert.new.self) items in
    let len : vec_len c.insert.new.self ≡ vec_len b.rows + 1 = c.insert.ensures.len ∙ ap (λ t. cond t (vec_len b.rows + 1) (vec_len b.rows)) ok in
    record {
      small = b.small;
      fits = omega (arith, orders_length g.T.Terms.given rs b.ladder.formed, b.rows.ok.0, c.len.ensures, c.capacity.ensures);
      held = omega (arith, c.insert.ensures.capacity);
      ladder = h.ladder;
    }

pub returns-clause-place : goal.returns-clause-place
returns-clause-place g c =
    let b = c.args.self.now in
    let o = c.args.order.now in
    let rs = vec_items b.rows in
    let l = orders g.T.Terms.given rs b.ladder.formed in
    let none = finds_stands o.pair o.id l c.rank_of.result c.rank_of.ensures ∙ sym c.if-is_some.ensures in
    let rank = c.place_for-rank.result in
    let left = leb-false c.capacity.result c.len.result (sym c.if-is_full.ensures) in
    let ok = c.insert.ensures.succeeds (omega (arith, orders_length g.T.Terms.given rs b.ladder.formed, b.rows.ok.0, c.len.ensures, c.capacity.ensures)) in
    let items : vec_items c.insert.new.self ≡ insert rs rank (order_row g.T.Terms.row o) =
    c.insert.ensures.items ∙ ap (λ t. cond t (insert rs rank c.to_row.result) rs) ok ∙ ap (insert rs rank) c.to_row.ensures in
    let h = inserted_holds g.T.Terms.given rs b.ladder g.T.Terms.row g.met.T.Terms.back o rank c.place_for-rank.ensures none (vec_items c.insert.new.self) items in
    (none, omega (arith, c.len.ensures, c.capacity.ensures), h.is _)
