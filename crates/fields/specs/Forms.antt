-- The forms of the fields that are kept as their bytes.
use Rattle.std.specs.Prelude.{◌≡◌, ℕ, zero, suc, ◌+◌, ◌-◌, ◌*◌, ◌<◌, ◌≤◌, Bool, true, not, ◌&&◌, List, length, ◌==◌, ◌≢◌, nat_le, nat_lt, slice_index}
use Rattle.digits.specs.Bytes.{Digit}
use Rattle.fields.specs.Bytes.{Letter, Printable}
use Rattle.fields.specs.Ranges.{between}

-- n printable bytes, the first no space
abbrev pub Labelled : ℕ → List ℕ → Type 0
Labelled n bs = (length bs ≡ n) × (0 < n) × (slice_index bs 0 ≢ 32) × ((i : ℕ) → i < length bs → Printable (slice_index bs i))

-- three letters, a slash, three letters
abbrev pub Paired : List ℕ → Type 0
Paired bs =
    (length bs ≡ 7) × ((i : ℕ) → i < 3 → Letter (slice_index bs i)) × (slice_index bs 3 ≡ 47) × ((i : ℕ) → i < 3 → Letter (slice_index bs (4 + i)))

-- the number that the two digits at i write
abbrev pub two : List ℕ → ℕ → ℕ
two bs i = (slice_index bs i - 48) * 10 + (slice_index bs (i + 1) - 48)

-- nine digits, HHMMSSmmm: hours to 23, minutes and seconds to 59, any milliseconds
abbrev pub Timed : List ℕ → Type 0
Timed bs =
    (length bs ≡ 9) × ((i : ℕ) → i < length bs → Digit (slice_index bs i)) × (two bs 0 ≤ 23) × (two bs 2 ≤ 59) × (two bs 4 ≤ 59)

-- The same forms as tests: a value keeps its form as a test that is true. specs/Tests has that each test decides its form.

-- the test passes at each number below n
abbrev pub below : (ℕ → Bool) → ℕ → Bool
below test zero = true
below test (suc n) = test n && below test n

unfoldable pub labelled : ℕ → List ℕ → Bool
labelled n bs =
    (length bs == n) && (nat_lt 0 n && (not (slice_index bs 0 == 32) && below (λ i. between 32 126 (slice_index bs i)) (length bs)))

unfoldable pub paired : List ℕ → Bool
paired bs =
    (length bs == 7) && (below (λ i. between 65 90 (slice_index bs i)) 3 && (slice_index bs 3 == 47 && below (λ i. between 65 90 (slice_index bs (4 + i))) 3))

unfoldable pub timed : List ℕ → Bool
timed bs =
    (length bs == 9)
    && (below (λ i. between 48 57 (slice_index bs i)) (length bs) && (nat_le (two bs 0) 23 && (nat_le (two bs 2) 59 && nat_le (two bs 4) 59)))
