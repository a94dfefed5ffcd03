-- The counts that each kind of number may have.
use Rattle.std.specs.Prelude.{◌≡◌, ℕ, ◌^◌, ◌<◌, ◌≤◌, Bool, true, ◌&&◌, nat_le}

-- n lies between two bounds, both included
abbrev pub between : ℕ → ℕ → ℕ → Bool
between least most n = nat_le least n && nat_le n most

-- a price, in hundred-thousandths: 0.00001 to 9,999.99999. Clients use its laws in specs/Bounds; besides these only
-- the examples open it.
unfoldable pub priced : ℕ → Bool
priced n = between 1 999999999 n

abbrev pub PriceCount : ℕ → Type 0
PriceCount n = priced n ≡ true

-- an amount, in hundredths: 0.01 to 10,000,000,000,000
abbrev pub amounted : ℕ → Bool
amounted n = between 1 1000000000000000 n

abbrev pub AmountCount : ℕ → Type 0
AmountCount n = amounted n ≡ true

-- a quantity, in hundredths: an amount, or 0 for no restriction
abbrev pub quantified : ℕ → Bool
quantified n = between 0 1000000000000000 n

abbrev pub QuantityCount : ℕ → Type 0
QuantityCount n = quantified n ≡ true

-- a number of at most `width` digits; an integer field has 1 to 18 bytes
abbrev pub IntegerValue : ℕ → ℕ → Type 0
IntegerValue width n = (0 < width) × (width ≤ 18) × (n < 10 ^ width)
