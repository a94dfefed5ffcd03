use Rattle.std.proofs.Common.{◌<◌, length, sym, ap, ◌∙◌, arith}
use Rattle.std.proofs.lemmas.List.{length-drop}
use Rattle.digits.specs.Written.{overwritten}
use Rattle.digits.proofs.Writes.{put_first, rest_of, step_at, places_pos, next_unit, rest_small}
use Rattle.digits.proofs.decimal.+put_decimals.Goals as goal

pub put_decimals-requires : goal.put_decimals-requires
put_decimals-requires t c =
    let p : 0 < c.args.rest = omega arith in
    let k = places_pos c.args.places c.args.rest (omega arith) p in
    let u = next_unit c.args.places _ c.requires.1.1 k in
    let e = step_at c.args.places c.args.rest _ u k p in
    let o = c.put_digit.new.out in
    let l = ap length (rest_of 1 o) in
    (omega arith, (omega (arith, ap length e, l, length-drop 1 o), (omega (arith, rest_small c.args.places c.args.rest _ u k, u), u)))

pub returns : goal.returns
returns t c =
    let p : 0 < c.args.rest = omega arith in
    let k = places_pos c.args.places c.args.rest (omega arith) p in
    let e = step_at c.args.places c.args.rest _ (next_unit c.args.places _ c.requires.1.1 k) k p in
    put_first c.args.out.now _ _ _ _ (omega (arith, ap length e)) c.put_digit.ensures c.put_decimals.ensures ∙ ap (λ t. overwritten t c.args.out.now) (sym e)
