-- The examples of fields.
use Rattle.std.proofs.Common.{[], codes, refl, inl, inr, ⊎_elim, arith, lit<, lit≤}
use Rattle.std.specs.Fmt.{digits}
use Rattle.fields.specs.Ranges.{priced}
use Rattle.facts.specs.FieldSamples.{FieldSamples}
use Rattle.digits.specs.Written.{padded}
use Rattle.digits.proofs.Fronts.{spaces_replicate}
use Rattle.fields.specs.Bounds.{between_bounds}
use Rattle.digits.proofs.Shapes.{plain_decimal, parted_decimal, decimal_shape, decimal_some, blank_none}

pub field_samples : FieldSamples
unfolding digits priced
field_samples = record {
  price = (record { long = refl; decimal = parted_decimal 5 (padded 10 (codes "1.50200")) 150200 (lit< tt) (record { inside = lit< tt; point = refl; some = lit< tt; few = lit≤ tt; spaces = spaces_replicate 3; count = refl }) }, refl);
  written_price = refl;
  highest = (record { long = refl; decimal = parted_decimal 5 (codes "9999.99999") 999999999 (lit< tt) (record { inside = lit< tt; point = refl; some = lit< tt; few = lit≤ tt; spaces = tt; count = refl }) }, refl);
  too_high = λ n f. ⊎_elim (λ h. let e = h.count in let b = between_bounds 1 999999999 n f.1 in omega arith) (λ h. let e = h.point in omega arith) (decimal_shape 5 (padded 10 (codes "10000")) n f.0.decimal);
  zero_price = λ n f. ⊎_elim (λ h. let e = h.spaces.0 in omega arith) (λ h. let e = h.count in let b = between_bounds 1 999999999 n f.1 in omega arith) (decimal_shape 5 (padded 10 (codes "0.00000")) n f.0.decimal);
  six_decimals = λ n f. ⊎_elim (λ h. let e = h.spaces.0 in omega arith) (λ h. let e = h.few in omega arith) (decimal_shape 5 (padded 10 (codes "1.123456")) n f.0.decimal);
  bare_point = λ n f. ⊎_elim (λ h. let e = h.spaces.0 in omega arith) (λ h. let e = h.some in omega arith) (decimal_shape 5 (padded 10 (codes "5.")) n f.0.decimal);
  no_whole = λ n f. let e = decimal_some 5 (padded 10 (codes ".5")) n f.0.decimal in omega arith;
  largest = (record { long = refl; decimal = plain_decimal 2 (padded 16 (codes "10000000000000")) 1000000000000000 (lit< tt) (record { spaces = spaces_replicate 2; count = refl }) }, refl);
  too_large = λ n f. ⊎_elim (λ h. let e = h.spaces.0 in omega arith) (λ h. let e = h.count in let b = between_bounds 1 1000000000000000 n f.1 in omega arith) (decimal_shape 2 (codes "10000000000000.1") n f.0.decimal);
  blank = (inr ((refl, spaces_replicate 16), refl), refl);
  zero = (inl (record { long = refl; decimal = plain_decimal 2 (padded 16 (codes "0")) 0 (lit< tt) (record { spaces = spaces_replicate 15; count = refl }) }), refl);
  zero_point = (inl (record { long = refl; decimal = parted_decimal 2 (padded 16 (codes "0.0")) 0 (lit< tt) (record { inside = lit< tt; point = refl; some = lit< tt; few = lit≤ tt; spaces = spaces_replicate 13; count = refl }) }), refl);
  blank_amount = λ n f. blank_none 2 (padded 16 []) n (spaces_replicate 16) f.0.decimal;
  zero_amount = λ n f. ⊎_elim (λ h. let e = h.count in let b = between_bounds 1 1000000000000000 n f.1 in omega arith) (λ h. let e = h.point in omega arith) (decimal_shape 2 (padded 16 (codes "0")) n f.0.decimal);
  zero_point_amount = λ n f. ⊎_elim (λ h. let e = h.spaces.0 in omega arith) (λ h. let e = h.count in let b = between_bounds 1 1000000000000000 n f.1 in omega arith) (decimal_shape 2 (padded 16 (codes "0.0")) n f.0.decimal);
}
