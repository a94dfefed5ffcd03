use Rattle.std.proofs.Common.{vec_items, subst}
use Rattle.book.specs.RowTests.{First, row_named}
use Rattle.book.specs.Packing.{finds_named}
use Rattle.book.proofs.packed.PackedBookBook.rank_of.Goals as goal

pub returns : goal.returns
returns g c =
    let b = c.args.self.now in
    finds_named g.T.Terms.given c.args.pair c.args.id (vec_items b.rows) b.ladder.formed c.rank_named.result
    (subst (λ z. First (row_named c.args.pair c.args.id) z c.rank_named.result) c.deref.ensures.value c.rank_named.ensures)
