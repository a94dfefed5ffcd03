-- Where the answers of a test change over, found in the first elements of a list.
use Rattle.std.proofs.Common.{◌≡◌, ℕ, ◌<◌, ◌≤◌, Bool, true, false, List, length, take, slice_index_or, sym, ap, ◌∙◌, ⊎_elim, arith, length-take}
use Rattle.std.specs.List.{HoldsAt}
use Rattle.std.specs.List.Sorted.{IsPartitionedBy, IsPartitionPoint}
use Rattle.std.proofs.lemmas.Bool.{both_ways}
use Rattle.std.proofs.lemmas.List.{get_or-take}
use Rattle.book.specs.Orderly.{split}

module _ {X : Type 0} (q : X → Bool) (xs : List X) (n : ℕ) (within : n ≤ length xs) (parted : IsPartitionedBy q xs) where
  length_front : length (take n xs) ≡ n
  length_front = omega (arith, length-take n xs)

  pub front_parted : IsPartitionedBy q (take n xs)
  front_parted = λ i j d a b h.
      let l = length_front in
      let m : j < n = omega arith in
      ap q (get_or-take n xs i d (omega arith)) ∙ parted i j d a (omega arith) (sym (ap q (get_or-take n xs j d m)) ∙ h)

  -- if the element behind them fails the test, it is that of the list
  pub front_point : (n < length xs → HoldsAt (λ x. q x ≡ false) xs n) → (k : ℕ) → k ≤ length (take n xs) → IsPartitionPoint (λ x. q x ≡ true) (λ x. q x ≡ false) (take n xs) k → IsPartitionPoint (λ x. q x ≡ true) (λ x. q x ≡ false) xs k
  front_point next k b point =
      let l = length_front in (
        λ j d a m. sym (ap q (get_or-take n xs j d (omega arith))) ∙ point.0 j d a m,
        λ j d a m. ⊎_elim
            (λ e.
            let in_front : j < n → ⊥ = λ w. both_ways _ (sym (ap q (get_or-take n xs j d w)) ∙ point.1 j d a (omega arith)) e in
            let behind : n ≤ j = omega (arith, in_front) in
            absurd (both_ways _ (next (omega arith) d) (parted n j d behind m e)))
            (λ e. e)
            (split (q (slice_index_or xs j d))),
      )
