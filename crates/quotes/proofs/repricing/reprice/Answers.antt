use Rattle.std.proofs.Common.{◌≤◌, length, sym, ◌∙◌, subst}
use Rattle.std.proofs.lemmas.Result.{err_from_is_err_and}
use Rattle.book.specs.Calls.{Place}
use Rattle.quotes.proofs.Repriced.{replaced, standing_is, not_removed}
use Rattle.quotes.proofs.repricing.reprice.Goals as goal

pub returns-in_err-remove : goal.returns-in_err-remove
returns-in_err-remove g c =
    let e = err_from_is_err_and c.from_residual-in_err-remove.result c.from_residual-in_err-remove.ensures.1 in
    record {
      reprice = not_removed (g.B.Book.ladder c.args.book.now) c.args.pair c.args.id c.args.price c.from_residual-in_err-remove.result e.0 c.in_err-remove.field-0.0 (g.B.Book.ladder c.remove.new.self) e.1 e.2 c.in_err-remove.ensures.remove;
      kept = c.remove.ensures.kept;
    }

pub returns : goal.returns
returns g c =
    let b = c.args.book.now in
    let l = g.B.Book.ladder b in
    let m = c.remove.new.self in
    let removed = c.in_ok-remove.ensures.remove in
    let few = subst (λ n. length l ≤ n) (sym c.remove.ensures.kept) (g.met.B.Book.fits b) in
    let put = subst (λ o. Place (g.B.Book.capacity m) (g.B.Book.ladder m) o c.place.result (g.B.Book.ladder c.place.new.self)) c.at_price.ensures c.place.ensures.place in
    record {
      reprice = replaced (g.B.Book.capacity m) l c.args.pair c.args.id c.args.price c.in_ok-old.old (g.B.Book.ladder m) c.place.result (g.B.Book.ladder c.place.new.self) few (sym c.standing.ensures ∙ standing_is c.standing.result c.in_ok-old.old c.in_ok-old.ensures.value) removed.1 put;
      kept = c.place.ensures.kept ∙ c.remove.ensures.kept;
    }
