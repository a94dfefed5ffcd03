-- The number that bytes write, worked out from the bytes.
use Rattle.std.specs.Prelude.{ℕ, ◌+◌, ◌-◌, ◌*◌, ◌^◌, Bool, true, cond, ◌&&◌, List, [], ◌∷◌, ◌++◌, length, drop, Option, ◌==◌, nat_le, nat_lt, slice_index}
use Rattle.std.specs.Char.{is_ascii_digit}
use Rattle.std.specs.Option.{option_or}
use Rattle.std.specs.Bool.{then_some}
use Rattle.digits.specs.Numerals.{front, numeral}

-- only spaces
abbrev pub spaced : List ℕ → Bool
spaced [] = true
spaced (c ∷ cs) = c == 32 && spaced cs

-- only digits
abbrev pub figured : List ℕ → Bool
figured [] = true
figured (c ∷ cs) = is_ascii_digit c && figured cs

-- what stands behind the spaces that bs begins with
abbrev pub unspaced : List ℕ → List ℕ
unspaced [] = []
unspaced (c ∷ cs) = cond (c == 32) (unspaced cs) (c ∷ cs)

-- the digits behind the point that follows the digits that bs begins with
abbrev pub behind : List ℕ → List ℕ
behind bs = front (drop (length (front bs) + 1) bs)

-- digits, then only spaces
abbrev pub plain : List ℕ → Bool
plain bs = nat_lt 0 (length (front bs)) && spaced (drop (length (front bs)) bs)

-- digits, a point, digits, at most `places` of them, then only spaces
abbrev pub parted : ℕ → List ℕ → Bool
parted places bs =
    nat_lt 0 (length (front bs))
    && (slice_index bs (length (front bs)) == 46
    && (nat_lt 0 (length (behind bs))
    && (nat_le (length (behind bs)) places && spaced (drop (length (front bs) + 1 + length (behind bs)) bs))))

-- the integer that bs is: spaces, then one or more digits up to the end
unfoldable pub whole_of : List ℕ → Option ℕ
whole_of bs = then_some (nat_lt 0 (length (unspaced bs)) && figured (unspaced bs)) (numeral (unspaced bs))

-- the decimal that bs is, in units of the last of the places
unfoldable pub decimal_of : ℕ → List ℕ → Option ℕ
decimal_of places bs =
    option_or
    (then_some (plain bs) (numeral (front bs) * 10 ^ places))
    (then_some (parted places bs) (numeral (front bs ++ behind bs) * 10 ^ (places - length (behind bs))))
