-- What comparing two texts answers.
use Rattle.std.proofs.Common.{◌≡◌, ℕ, Ordering, List, refl, ap, ◌∙◌, arith}
use Rattle.std.specs.Cmp.Lexicographic.{slice_cmp}
use Rattle.std.specs.Ordering.{nat_cmp, is_lt, is_eq}
use Rattle.std.specs.Str.{bytes_eq}
use Rattle.std.proofs.lemmas.Bool.Decides.{nat_tests}
use Rattle.std.proofs.lemmas.Cmp.{same_from_slice_cmp}
use Rattle.std.proofs.lemmas.Map.Text.{is_eq-slice_cmp}
use Rattle.book.specs.Sides.{before}

pub cmp_before : (s t : List ℕ) (o : Ordering) → o ≡ slice_cmp nat_cmp s t → is_lt o ≡ before s t
cmp_before = same_from_slice_cmp nat_cmp is_lt before refl (λ _ _. refl) (λ _ _. refl) (λ x y xs ys o h. grind (arith, nat_tests))

pub cmp_same : (s t : List ℕ) (o : Ordering) → o ≡ slice_cmp nat_cmp s t → is_eq o ≡ bytes_eq s t
cmp_same s t o h = ap is_eq h ∙ is_eq-slice_cmp s t
