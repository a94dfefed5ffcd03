use Rattle.std.proofs.Common.{Some, Err, vec_items, sym, refl, ap, ◌∙◌, subst, arith}
use Rattle.std.proofs.lemmas.Result.{err_from_is_err_and}
use Rattle.book.specs.Calls.{Remove}
use Rattle.book.specs.Ladders.{finds_stands}
use Rattle.book.specs.Rows.{orders}
use Rattle.book.specs.Packing.{orders_length, removed_holds}
use Rattle.book.proofs.Found.{at_its_rank, not_standing}
use Rattle.book.proofs.packed.PackedBookBook.remove.Goals as goal

pub returns-in_err-rank-clause-remove : goal.returns-in_err-rank-clause-remove
returns-in_err-rank-clause-remove g c =
    let b = c.args.self.now in
    let l = orders g.T.Terms.given (vec_items b.rows) b.ladder.formed in
    let e = err_from_is_err_and c.from_residual.result c.from_residual.ensures.1 in
    let n = not_standing c.args.pair c.args.id l c.rank_of.result c.in_err-rank.field-0.0 c.rank_of.ensures (sym c.ok_or.ensures.value ∙ c.in_err-rank.was) in
    subst (λ z. Remove l c.args.pair c.args.id z l) (sym (e.1 ∙ ap Err e.2)) (n.0, n.1, refl)

pub take_out-requires : goal.take_out-requires
take_out-requires g c =
    let b = c.args.self.now in
    let l = orders g.T.Terms.given (vec_items b.rows) b.ladder.formed in
    let found = at_its_rank c.args.pair c.args.id l c.rank_of.result c.in_ok-rank.rank c.rank_of.ensures (sym c.ok_or.ensures.value ∙ c.in_ok-rank.was) in
    omega (arith, found.0, b.rows.ok.0, orders_length g.T.Terms.given (vec_items b.rows) b.ladder.formed)

pub invariant_of-self : goal.invariant_of-self
invariant_of-self g c =
    let b = c.args.self.now in
    let l = orders g.T.Terms.given (vec_items b.rows) b.ladder.formed in
    let found = at_its_rank c.args.pair c.args.id l c.rank_of.result c.in_ok-rank.rank c.rank_of.ensures (sym c.ok_or.ensures.value ∙ c.in_ok-rank.was) in
    let h = removed_holds g.T.Terms.given (vec_items b.rows) b.ladder c.args.pair c.args.id c.in_ok-rank.rank found (vec_items c.take_out.new.rows) c.take_out.ensures.items in
    record { small = b.small; fits = omega (arith, c.take_out.ensures.len); held = omega (arith, c.take_out.ensures.capacity); ladder = h.ladder }

pub returns-clause-remove : goal.returns-clause-remove
returns-clause-remove g c =
    let b = c.args.self.now in
    let l = orders g.T.Terms.given (vec_items b.rows) b.ladder.formed in
    let found = at_its_rank c.args.pair c.args.id l c.rank_of.result c.in_ok-rank.rank c.rank_of.ensures (sym c.ok_or.ensures.value ∙ c.in_ok-rank.was) in
    let h = removed_holds g.T.Terms.given (vec_items b.rows) b.ladder c.args.pair c.args.id c.in_ok-rank.rank found (vec_items c.take_out.new.rows) c.take_out.ensures.items in
    (finds_stands c.args.pair c.args.id l (Some c.in_ok-rank.rank) found, h.is _)
