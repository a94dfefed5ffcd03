use Rattle.std.proofs.Common.{◌+◌, length, ap, arith, mul-le-mul_left}
use Rattle.digits.specs.Numerals.{Part}
use Rattle.digits.proofs.Fronts.{pow10_le}
use Rattle.digits.proofs.Onlys.{then_found}
use Rattle.digits.proofs.Shapes.{part_found, part_only}
use Rattle.digits.proofs.decimal.find_part.Goals as goal

pub read_digits-n-requires : goal.read_digits-n-requires
read_digits-n-requires c =
    let e = ap length c.in-Some.ensures in
    omega (arith, mul-le-mul_left (c.args.n + 1) (pow10_le (length c.in-Some.after.now) (length c.args.s.now) (omega arith)))

pub returns-clause-part : goal.returns-clause-part
returns-clause-part c =
    let e = c.in-Some.ensures in
    let k = c.read_digits-n.ensures in
    rw c.then_some-2.ensures
    (then_found _ (λ found. Part c.args.s.now found.0.now) _ (c.read_digits-n.result.0, c.read_digits-n.result.2) c.some_then_spaces.ensures
    (λ f. part_found c.args.s.now _ _ _ e k.digits k.whole f.0 f.1)
    (λ none part h. none (part_only c.args.s.now _ _ _ e k.digits k.whole part h)))
