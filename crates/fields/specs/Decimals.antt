-- Decimals by their kind: how wide, how many places, which counts.
use Rattle.std.specs.Prelude.{◌≡◌, ℕ, ◌+◌, ◌^◌, ◌<◌, ◌≤◌, Bool, true, cond, ◌⊎◌, List, [], length, ◌==◌}
use Rattle.std.specs.List.{AllByRecursion}
use Rattle.digits.specs.Bytes.{Space}
use Rattle.digits.specs.Numerals.{DecimalField}
use Rattle.digits.specs.Written.{written, padded}
use Rattle.fields.specs.Ranges.{between}

-- `width` spaces
abbrev pub Blank : ℕ → List ℕ → Type 0
Blank width bs = (length bs ≡ width) × AllByRecursion Space bs

-- the decimal of this count, or spaces for 0
abbrev pub CountText : ℕ → ℕ → List ℕ → ℕ → Type 0
CountText width places bs n = DecimalField width places bs n ⊎ (Blank width bs × (n ≡ 0))

-- what is written of the count n: spaces for 0
abbrev pub count_text : ℕ → ℕ → ℕ → List ℕ
count_text width places n = padded width (cond (n == 0) [] (written places n))

-- a kind of decimals: the counts are those between two bounds, its field has a decimal or spaces, and each value fits
pub record KindLaws (width places least most : ℕ) (may : ℕ → Bool) (Field : List ℕ → ℕ → Type 0) (text : ℕ → List ℕ) : Type 0 where
  pub narrow : width + places ≤ 18
  pub small : most < 2 ^ 64
  pub range : (n : ℕ) → may n ≡ between least most n
  pub fits : (n : ℕ) → may n ≡ true → length (written places n) ≤ width
  pub is_text : (bs : List ℕ) (n : ℕ) → Field bs n → CountText width places bs n × (may n ≡ true)
  pub is_field : (bs : List ℕ) (n : ℕ) → CountText width places bs n → may n ≡ true → Field bs n
  pub written_text : (n : ℕ) → may n ≡ true → text n ≡ count_text width places n
