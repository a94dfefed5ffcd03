-- Fields that are kept as their bytes.
use Rattle.std.specs.Prelude.{◌≡◌, ℕ, Bool, List, length, Decides}
use Rattle.std.specs.List.{AllByRecursion}
use Rattle.digits.specs.Bytes.{Space}
use Rattle.fields.specs.Bytes.{Printable}

-- a field that is kept as its bytes
abbrev pub Kept : (List ℕ → Type 0) → List ℕ → List ℕ → Type 0
Kept Form bs kept = Form bs × (kept ≡ bs)

-- a kind of texts: the test decides the form, and a text is as many bytes as its field, all printable, and not all spaces
pub record TextLaws (width : ℕ) (Form : List ℕ → Type 0) (test : List ℕ → Bool) : Type 0 where
  pub decides : (bs : List ℕ) → Decides (test bs) (Form bs)
  pub long : (bs : List ℕ) → Form bs → length bs ≡ width
  pub printable : (bs : List ℕ) → Form bs → AllByRecursion Printable bs
  pub filled : (bs : List ℕ) → Form bs → AllByRecursion Space bs → ⊥
