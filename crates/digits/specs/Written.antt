-- How numbers are written in their fields.
use Rattle.std.specs.Prelude.{ℕ, zero, suc, ◌+◌, ◌-◌, ◌/◌, ◌%◌, ◌^◌, cond, List, [], ◌∷◌, ◌++◌, length, drop, replicate, decimal, ◌==◌}
use Rattle.digits.specs.Numerals.{pointed}

-- the digits after the point of r units of the last of k places, up to the last one that is not 0
abbrev pub decimals : ℕ → ℕ → List ℕ
decimals zero r = []
decimals (suc k) r = cond (r == 0) [] ((48 + r / 10 ^ k) ∷ decimals k (r % 10 ^ k))

-- n units of the last of the places, without needless zeros or a bare point
abbrev pub written : ℕ → ℕ → List ℕ
written places n = decimal (n / 10 ^ places) ++ pointed (decimals places (n % 10 ^ places))

-- a text at the left of a field of w bytes, spaces after it
abbrev pub padded : ℕ → List ℕ → List ℕ
padded w t = t ++ replicate (w - length t) 32

-- a text at the right of a field of w bytes, spaces before it
abbrev pub justified : ℕ → List ℕ → List ℕ
justified w t = replicate (w - length t) 32 ++ t

-- bytes with a text over the first of them
abbrev pub overwritten : List ℕ → List ℕ → List ℕ
overwritten t bs = t ++ drop (length t) bs
