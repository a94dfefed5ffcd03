-- A text put into a field of a buffer.
use Rattle.std.proofs.Common.{◌≡◌, ℕ, ◌+◌, ◌-◌, ◌≤◌, List, ◌++◌, length, take, drop, replicate, ap, ◌∙◌, arith}
use borrow.Rule.Slice.PartMut.{put_mid}
use Rattle.std.proofs.lemmas.List.{drop-drop, length-append, length-replicate, length-take-le, length-drop}
use Rattle.digits.specs.Written.{padded, justified}

pub length-padded : (w : ℕ) (t : List ℕ) → length t ≤ w → length (padded w t) ≡ w
length-padded w t h = length-append t (replicate (w - length t) 32) ∙ omega (arith, length-replicate {A = ℕ} (w - length t) 32)

pub length-justified : (w : ℕ) (t : List ℕ) → length t ≤ w → length (justified w t) ≡ w
length-justified w t h = length-append (replicate (w - length t) 32) t ∙ omega (arith, length-replicate {A = ℕ} (w - length t) 32)

put_mid_field : (at k : ℕ) (xs ys text : List ℕ) → ys ≡ text → k ≡ length text → put_mid at k xs ys ≡ take at xs ++ (text ++ drop (at + length text) xs)
put_mid_field at k xs ys text e l =
    ap (λ y. take at xs ++ (y ++ drop k (drop at xs))) e ∙ ap (λ d. take at xs ++ (text ++ d)) (drop-drop k at xs ∙ ap (λ n. drop (at + n) xs) l)

-- the part of xs from `at` to `end` was filled with a text as wide as it
module _ (at end w : ℕ) (xs : List ℕ) (is : end ≡ at + w) (within : end ≤ length xs) where
  pub length_part : length (take (end - at) (drop at xs)) ≡ w
  length_part = length-take-le (end - at) (drop at xs) (omega (arith, length-drop at xs)) ∙ omega arith

  pub field_filled : (ys text : List ℕ) → length text ≡ w → ys ≡ text → (at + length text ≤ length xs) × (put_mid at (end - at) xs ys ≡ take at xs ++ (text ++ drop (at + length text) xs))
  field_filled ys text l e = (omega arith, put_mid_field at (end - at) xs ys text e (omega arith))
