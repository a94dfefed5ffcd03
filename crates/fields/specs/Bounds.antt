-- What follows from the ranges of the counts. Only this file opens the range of a price.
use Rattle.std.proofs.Common.{◌≡◌, ℕ, ◌^◌, ◌<◌, ◌≤◌, true, length, refl, subst, ⊎_elim, arith, lit≤}
use Rattle.std.specs.Fmt.{digits}
use Rattle.std.proofs.lemmas.Bool.Decides.{nat_tests}
use Rattle.std.proofs.lemmas.Bool.{cases_lt}
use Rattle.digits.specs.Written.{written}
use Rattle.fields.specs.Ranges.{between, priced, PriceCount, AmountCount, QuantityCount}
use Rattle.digits.proofs.Counts.{written_fits}

pub between_bounds : (least most n : ℕ) → between least most n ≡ true → (least ≤ n) × (n ≤ most)
between_bounds least most n h = (grind (arith, nat_tests), grind (arith, nat_tests))

pub between_in : (least most n : ℕ) → least ≤ n → n ≤ most → between least most n ≡ true
between_in least most n a b = grind (arith, nat_tests)

-- the test of a price is that of the bounds that the code has
pub priced_is : (n : ℕ) → priced n ≡ between 1 999999999 n
unfolding priced
priced_is n = refl

pub price_small : (n : ℕ) → PriceCount n → n < 2 ^ 64
unfolding priced
price_small n h = let r = between_bounds 1 999999999 n h in omega arith

-- every price fits ten bytes
pub price_fits : (n : ℕ) → PriceCount n → length (written 5 n) ≤ 10
unfolding priced
price_fits n h = let r = between_bounds 1 999999999 n h in written_fits 5 4 n (omega arith) (omega arith) (omega arith)

pub amount_small : (n : ℕ) → AmountCount n → n < 2 ^ 64
amount_small n h = let r = between_bounds 1 1000000000000000 n h in omega arith

-- every amount fits sixteen bytes
pub amount_fits : (n : ℕ) → AmountCount n → length (written 2 n) ≤ 16
unfolding digits
amount_fits n h =
    let r = between_bounds 1 1000000000000000 n h in
    ⊎_elim
    (λ l. written_fits 2 13 n (omega arith) l (omega arith))
    (λ l. let e : 10 ^ 15 ≡ n = omega arith in subst (λ x. length (written 2 x) ≤ 16) e (lit≤ tt))
    (cases_lt n (10 ^ 15))

-- a quantity is 0 or an amount
pub quantity_amount : (n : ℕ) → QuantityCount n → (n ≡ 0 → ⊥) → AmountCount n
quantity_amount n h z = let r = between_bounds 0 1000000000000000 n h in between_in 1 1000000000000000 n (omega (arith, z)) r.1
