use Rattle.std.proofs.Common.{not, vec_items, rules, arith}
use Rattle.std.proofs.lemmas.Fn.{filter_same}
use Rattle.book.specs.RowTests.{row_of_pair}
use Rattle.book.specs.Packing.{cleared_holds}
use Rattle.book.proofs.packed.PackedBookBook.clear.Goals as goal

pub invariant_of-self : goal.invariant_of-self
invariant_of-self g c =
    let b = c.args.self.now in
    let kept = filter_same _ (λ x. not (row_of_pair c.args.pair x)) _ (λ x t f' k. search rules) (vec_items b.rows) (vec_items c.retain.new.self) c.retain.ensures.filtered in
    let h = cleared_holds g.T.Terms.given (vec_items b.rows) b.ladder c.args.pair (vec_items c.retain.new.self) kept in
    record { small = b.small; fits = omega (arith, c.retain.ensures.bound); held = omega (arith, c.retain.ensures.capacity); ladder = h.ladder }

pub returns-clause-clear : goal.returns-clause-clear
returns-clause-clear g c =
    let b = c.args.self.now in
    let kept = filter_same _ (λ x. not (row_of_pair c.args.pair x)) _ (λ x t f' k. search rules) (vec_items b.rows) (vec_items c.retain.new.self) c.retain.ensures.filtered in
    (cleared_holds g.T.Terms.given (vec_items b.rows) b.ladder c.args.pair (vec_items c.retain.new.self) kept).is _
