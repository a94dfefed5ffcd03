-- Integers and decimals as they stand in a field, for every width and number of places.
use Rattle.std.specs.Prelude.{◌≡◌, ℕ, ◌+◌, ◌-◌, ◌*◌, ◌^◌, ◌<◌, ◌≤◌, cond, List, [], ◌∷◌, ◌++◌, length}
use Rattle.std.specs.Char.{is_ascii_digit}
use Rattle.std.specs.List.{AllByRecursion}
use Rattle.digits.specs.Bytes.{Digit, Space}

-- the number that digits write after those of n
abbrev pub read_on : ℕ → List ℕ → ℕ
read_on n [] = n
read_on n (c ∷ cs) = read_on (n * 10 + (c - 48)) cs

-- the number that digits write
abbrev pub numeral : List ℕ → ℕ
numeral ds = read_on 0 ds

-- the digits that bs begins with
abbrev pub front : List ℕ → List ℕ
front [] = []
front (c ∷ cs) = cond (is_ascii_digit c) (c ∷ front cs) []

-- a point and digits, or nothing where there are no digits
abbrev pub pointed : List ℕ → List ℕ
pointed [] = []
pointed (c ∷ cs) = 46 ∷ (c ∷ cs)

-- bs is spaces, then one or more digits up to its end, which write n
pub record Whole (bs : List ℕ) (n : ℕ) : Type 0 where
  pub gap : List ℕ
  pub figures : List ℕ
  pub form : bs ≡ gap ++ figures
  pub gap_spaces : AllByRecursion Space gap
  pub figures_digits : AllByRecursion Digit figures
  pub figures_some : 0 < length figures
  pub count : n ≡ numeral figures

-- bs is one or more digits, perhaps a point and one or more digits, then only spaces;
-- it has at most `places` decimals, and is n units of the last of the places
pub record Decimal (places : ℕ) (bs : List ℕ) (n : ℕ) : Type 0 where
  pub whole : List ℕ
  pub part : List ℕ
  pub pad : List ℕ
  pub form : bs ≡ whole ++ (pointed part ++ pad)
  pub whole_digits : AllByRecursion Digit whole
  pub whole_some : 0 < length whole
  pub part_digits : AllByRecursion Digit part
  pub pad_spaces : AllByRecursion Space pad
  pub part_few : length part ≤ places
  pub count : n ≡ numeral (whole ++ part) * 10 ^ (places - length part)

-- bs is perhaps a point and one or more digits, which are the part, then only spaces
pub record Part (bs part : List ℕ) : Type 0 where
  pub pad : List ℕ
  pub form : bs ≡ pointed part ++ pad
  pub part_digits : AllByRecursion Digit part
  pub pad_spaces : AllByRecursion Space pad

-- a decimal in a field of `width` bytes
pub record DecimalField (width places : ℕ) (bs : List ℕ) (n : ℕ) : Type 0 where
  pub long : length bs ≡ width
  pub decimal : Decimal places bs n
