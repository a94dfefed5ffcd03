use Rattle.std.proofs.Common.{sym, subst}
use Rattle.quotes.specs.Quotes.{Requote}
use Rattle.quotes.proofs.Quoting.{told}
use Rattle.quotes.proofs.requote.Goals as goal

pub returns : goal.returns
returns g c =
    let b = c.reprice.new.book in
    let l = g.B.Book.ladder c.args.book.now in
    let m = g.B.Book.ladder b in
    record {
      requote = subst (λ z. Requote l c.args.pair c.args.id c.args.price z m) (sym c.ok_or.ensures.value)
          (told l c.args.pair c.args.id c.args.price m (g.met.B.Book.distinct b) c.in_ok-reprice.ensures.reprice c.rank_of.result c.rank_of.ensures);
      kept = c.reprice.ensures.kept;
    }
