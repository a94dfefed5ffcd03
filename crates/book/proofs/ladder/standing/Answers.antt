use Rattle.std.proofs.Common.{rules}
use Rattle.book.proofs.Found.{looked_up}
use Rattle.book.proofs.ladder.standing.Goals as goal

pub returns : goal.returns
returns g c =
    let b = c.args.book.now in
    looked_up c.args.pair c.args.id (g.B.Book.ladder b) (g.met.B.Book.distinct b) c.rank_of.result c.and_then.result _ (λ k h. search rules) c.rank_of.ensures c.and_then.ensures
