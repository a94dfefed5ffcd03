-- What it is for a decimal to be written without needless zeros.
use Rattle.std.specs.Prelude.{◌≡◌, ℕ, ◌^◌, ◌<◌, List, [], ◌∷◌, length, slice_index}
use Rattle.digits.specs.Numerals.{Decimal}
use Rattle.digits.specs.Written.{written, padded}

-- a 0 in front stands alone
abbrev pub Unled : List ℕ → Type 0
Unled ds = slice_index ds 0 ≡ 48 → length ds ≡ 1

-- the last digit, if there is one, is no 0
abbrev pub Trimmed : List ℕ → Type 0
Trimmed [] = Unit {0}
Trimmed (d ∷ []) = d ≡ 48 → ⊥
Trimmed (d ∷ (e ∷ ds)) = Trimmed (e ∷ ds)

-- a decimal without needless zeros; a bare point is no decimal at all
pub record Tidy (places : ℕ) (bs : List ℕ) (n : ℕ) : Type 0 where
  pub decimal : Decimal places bs n
  pub unled : Unled decimal.whole
  pub trimmed : Trimmed decimal.part

-- what is written is tidy, and nothing else of its length is
pub record TidyLaws : Type 0 where
  pub is : (k n w : ℕ) → n < 2 ^ 64 → Tidy k (padded w (written k n)) n
  pub only : (k n : ℕ) (bs : List ℕ) → n < 2 ^ 64 → Tidy k bs n → bs ≡ padded (length bs) (written k n)
