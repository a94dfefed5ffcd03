use Rattle.std.proofs.Common.{Less, Equal, Greater, cond, ap₂}
use Rattle.book.proofs.Bytes.{cmp_before, cmp_same}
use Rattle.book.proofs.compare.is_first.Goals as goal

pub returns-in-Less : goal.returns-in-Less
returns-in-Less c =
    let h = c.in-Less.ensures in
    ap₂ (λ a b. cond a c.args.within b) (cmp_same c.args.pair.now c.args.other.now Less h) (cmp_before c.args.pair.now c.args.other.now Less h)

pub returns-in-Equal : goal.returns-in-Equal
returns-in-Equal c =
    let h = c.in-Equal.ensures in
    ap₂ (λ a b. cond a c.args.within b) (cmp_same c.args.pair.now c.args.other.now Equal h) (cmp_before c.args.pair.now c.args.other.now Equal h)

pub returns-in-Greater : goal.returns-in-Greater
returns-in-Greater c =
    let h = c.in-Greater.ensures in
    ap₂ (λ a b. cond a c.args.within b) (cmp_same c.args.pair.now c.args.other.now Greater h) (cmp_before c.args.pair.now c.args.other.now Greater h)
