use Rattle.std.proofs.Common.{length, ap, arith}
use Rattle.std.proofs.lemmas.List.{length-drop}
use Rattle.digits.proofs.Writes.{pow10_pos, length-written, rest_below, rest_of, wrote}
use Rattle.digits.proofs.decimal.fill.Goals as goal

pub nonzero_div-n : goal.nonzero_div-n
nonzero_div-n c = omega (arith, c.pow-unit.ensures, pow10_pos c.args.places)

pub nonzero_rem-n : goal.nonzero_rem-n
nonzero_rem-n c = omega (arith, c.pow-unit.ensures, pow10_pos c.args.places)

pub put_part-requires : goal.put_part-requires
put_part-requires c =
    let l = ap length (rest_of c.put_figures-point.result c.put_figures-point.new.out) in
    let d = length-drop c.put_figures-point.result c.put_figures-point.new.out in
    (omega (arith, length-written c.args.places c.args.n _ c.pow-unit.ensures), (omega (arith, rest_below c.args.places c.args.n _ c.pow-unit.ensures, c.pow-unit.ensures), c.pow-unit.ensures))

pub returns : goal.returns
returns c =
    wrote c.args.places c.args.n _ c.pow-unit.ensures _ _ _ _ _ c.requires.0 c.put_spaces.ensures c.put_figures-point.ensures.len c.put_figures-point.ensures.text c.put_part.ensures
