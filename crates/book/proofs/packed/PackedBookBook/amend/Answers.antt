use Rattle.std.proofs.Common.{◌≡◌, get_or, set, Some, Err, vec_items, sym, refl, ap, ◌∙◌, subst, arith}
use Rattle.std.proofs.lemmas.Result.{err_from_is_err_and}
use Rattle.book.specs.Calls.{Amend}
use Rattle.book.specs.Ladders.{finds_stands}
use Rattle.book.specs.Rows.{orders, changed_row}
use Rattle.book.specs.Packing.{orders_length, set_holds}
use Rattle.book.proofs.Found.{at_its_rank, not_standing}
use Rattle.book.proofs.packed.PackedBookBook.amend.Goals as goal

pub returns-in_err-rank-clause-amend : goal.returns-in_err-rank-clause-amend
returns-in_err-rank-clause-amend g c =
    let b = c.args.self.now in
    let l = orders g.T.Terms.given (vec_items b.rows) b.ladder.formed in
    let e = err_from_is_err_and c.from_residual.result c.from_residual.ensures.1 in
    let n = not_standing c.args.pair c.args.id l c.rank_of.result c.in_err-rank.field-0.0 c.rank_of.ensures (sym c.ok_or.ensures.value ∙ c.in_err-rank.was) in
    subst (λ z. Amend l c.args.pair c.args.id c.args.amount c.args.terms z l) (sym (e.1 ∙ ap Err e.2)) (n.0, n.1, refl)

pub index-requires : goal.index-requires
index-requires g c =
    let b = c.args.self.now in
    let l = orders g.T.Terms.given (vec_items b.rows) b.ladder.formed in
    let found = at_its_rank c.args.pair c.args.id l c.rank_of.result c.in_ok-rank.rank c.rank_of.ensures (sym c.ok_or.ensures.value ∙ c.in_ok-rank.was) in
    omega (arith, found.0, b.rows.ok.0, orders_length g.T.Terms.given (vec_items b.rows) b.ladder.formed)

pub index_mut-requires : goal.index_mut-requires
index_mut-requires g c =
    let b = c.args.self.now in
    let l = orders g.T.Terms.given (vec_items b.rows) b.ladder.formed in
    let found = at_its_rank c.args.pair c.args.id l c.rank_of.result c.in_ok-rank.rank c.rank_of.ensures (sym c.ok_or.ensures.value ∙ c.in_ok-rank.was) in
    omega (arith, found.0, b.rows.ok.0, orders_length g.T.Terms.given (vec_items b.rows) b.ladder.formed)

pub invariant_of-self : goal.invariant_of-self
invariant_of-self g c =
    let b = c.args.self.now in
    let rs = vec_items b.rows in
    let k = c.in_ok-rank.rank in
    let l = orders g.T.Terms.given rs b.ladder.formed in
    let found = at_its_rank c.args.pair c.args.id l c.rank_of.result k c.rank_of.ensures (sym c.ok_or.ensures.value ∙ c.in_ok-rank.was) in
    let r = c.index.result.now in
    let items : set rs k c.reset_row.result ≡ set rs k (changed_row c.args.amount.count (g.T.Terms.row c.args.terms) (get_or rs k r)) =
    ap (set rs k) (c.reset_row.ensures ∙ ap (changed_row c.args.amount.count (g.T.Terms.row c.args.terms)) c.index.ensures) in
    let h = set_holds g.T.Terms.given rs b.ladder g.T.Terms.row g.met.T.Terms.back c.args.pair c.args.id c.args.amount c.args.terms k r found _ items in
    record { small = b.small; fits = b.fits; held = b.held; ladder = h.ladder }

pub returns-clause-amend : goal.returns-clause-amend
returns-clause-amend g c =
    let b = c.args.self.now in
    let rs = vec_items b.rows in
    let k = c.in_ok-rank.rank in
    let l = orders g.T.Terms.given rs b.ladder.formed in
    let found = at_its_rank c.args.pair c.args.id l c.rank_of.result k c.rank_of.ensures (sym c.ok_or.ensures.value ∙ c.in_ok-rank.was) in
    let r = c.index.result.now in
    let items : set rs k c.reset_row.result ≡ set rs k (changed_row c.args.amount.count (g.T.Terms.row c.args.terms) (get_or rs k r)) =
    ap (set rs k) (c.reset_row.ensures ∙ ap (changed_row c.args.amount.count (g.T.Terms.row c.args.terms)) c.index.ensures) in
    let h = set_holds g.T.Terms.given rs b.ladder g.T.Terms.row g.met.T.Terms.back c.args.pair c.args.id c.args.amount c.args.terms k r found _ items in
    (finds_stands c.args.pair c.args.id l (Some k) found, h.is _)
