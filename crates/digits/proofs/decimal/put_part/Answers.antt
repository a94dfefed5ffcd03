use Rattle.std.proofs.Common.{◌<◌, length, sym, ap, ◌∙◌, arith}
use Rattle.digits.specs.Written.{overwritten}
use Rattle.digits.proofs.Shapes.{pointed_some}
use Rattle.digits.proofs.Writes.{put_first, decimals_some, places_pos}
use Rattle.digits.proofs.decimal.put_part.Goals as goal

pub returns : goal.returns
returns c =
    let p : 0 < c.args.rest = omega arith in
    let s = decimals_some c.args.places c.args.rest (places_pos c.args.places c.args.rest (omega arith) p) p in
    put_first c.args.out.now _ _ _ 46 (omega (arith, ap length (pointed_some _ s))) c.put_point.ensures c.put_decimals.ensures ∙ ap (λ t. overwritten t c.args.out.now) (sym (pointed_some _ s))
