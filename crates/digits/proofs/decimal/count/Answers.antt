use Rattle.std.proofs.Common.{◌+◌, ◌-◌, ◌*◌, ◌^◌, ◌≤◌, length, refl, ap, ◌∙◌, arith}
use Rattle.std.proofs.lemmas.Bool.Decides.{not_from_Decides}
use Rattle.std.proofs.lemmas.List.{length-append}
use Rattle.digits.specs.Numerals.{Decimal, read_on}
use Rattle.digits.proofs.Counts.{one_count}
use Rattle.digits.proofs.Fronts.{pow10_le, more_room, more_below, scaled_room}
use Rattle.digits.proofs.Shapes.{one_part, decimal_parts, parts_decimal}
use Rattle.digits.proofs.decimal.count.Goals as goal

pub returns-in_err-part : goal.returns-in_err-part
returns-in_err-part c =
    let k = c.read_digits-n.ensures in
    let none = λ (n : _) (d : Decimal c.args.places c.args.s.now n). c.in_err-part.ensures.part d.part (decimal_parts c.args.s.now _ _ k.digits k.whole c.args.places n d).1 in
    rw c.from_residual.ensures none

pub returns-then-not-some_and_few : goal.returns-then-not-some_and_few
returns-then-not-some_and_few c n d =
    let k = c.read_digits-n.ensures in
    let p = decimal_parts c.args.s.now _ _ k.digits k.whole c.args.places n d in
    let e = one_part _ _ _ p.1 c.in_ok-part.ensures.part in
    not_from_Decides _ c.some_and_few.ensures c.if-not-some_and_few.true (p.0, omega (arith, d.part_few, ap length e))

pub read_digits-n-requires : goal.read_digits-n-requires
read_digits-n-requires c = omega (arith, pow10_le (length c.args.s.now) 18 (omega arith))

pub find_part-requires : goal.find_part-requires
find_part-requires c =
    let k = c.read_digits-n.ensures in
    more_room c.read_digits-n.result.2 (length c.read_digits-n.result.0.now) (length c.read_digits-n.result.1.now) (omega (arith, k.bound))
    (omega (arith, ap length k.whole, length-append c.read_digits-n.result.0.now c.read_digits-n.result.1.now))

pub scaled-requires : goal.scaled-requires
scaled-requires c =
    let k = c.read_digits-n.ensures in
    let f = c.some_and_few.ensures.0 c.if-not-some_and_few.false in
    let i = length c.read_digits-n.result.0.now in
    let j = length c.in_ok-part.part.now in
    let l : i + c.args.places ≤ 18 = omega (arith, ap length k.whole, length-append c.read_digits-n.result.0.now c.read_digits-n.result.1.now) in
    let b = more_below c.read_digits-n.result.2 i j (omega (arith, k.bound)) (omega arith) c.in_ok-part.n (c.in_ok-part.ensures.bound _ refl) in
    (scaled_room c.in_ok-part.n (i + j) (c.args.places - j) b (omega arith), omega arith)

pub returns : goal.returns
returns c =
    let k = c.read_digits-n.ensures in
    let part = c.in_ok-part.part.now in
    let f = c.some_and_few.ensures.0 c.if-not-some_and_few.false in
    let n = c.in_ok-part.ensures.number _ refl ∙ ap (λ n. read_on n part) k.number in
    let e = c.scaled.ensures ∙ ap (λ n. n * 10 ^ (c.args.places - length part)) n in
    let d = parts_decimal c.args.s.now _ _ k.digits k.whole c.args.places c.scaled.result part f.0 c.in_ok-part.ensures.part f.1 e in
    (d, λ m h. one_count _ _ m _ h d)
