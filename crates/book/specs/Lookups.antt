-- Ladders, ranks and look-ups after each change.
use Rattle.std.specs.Prelude.{◌≡◌, ℕ, zero, suc, ◌+◌, ◌<◌, ◌≤◌, Bool, true, false, cond, not, ◌&&◌, ◌||◌, List, [], ◌∷◌, length, is_some, Some, None, Option, slice_index_or, refl}
use Rattle.std.proofs.Common.{sym, ap, ◌∙◌, ⊎_elim, arith}
use Rattle.std.proofs.Math.Path.{ap₂}
use Rattle.std.specs.List.{list_all}
use Rattle.std.specs.Str.{bytes_eq}
use Rattle.std.specs.Option.{option_map}
use Rattle.std.proofs.lemmas.Bool.{both_ways, and_parts, not-true}
use Rattle.std.proofs.lemmas.Bool.Decides.{nat_tests}
use Rattle.fields.specs.Values.{Pair, Amount}
use Rattle.book.specs.Ladder.{OrderId, same_pair, ahead, named, in_order, apart, stands, lookup, placed, without, at_rank, reset, amended, cleared}
use Rattle.book.specs.Calls.{PlaceRefused}
use Rattle.book.specs.declared.order.Order.{Order}
use Rattle.book.specs.Orderly.{split, named_both, named_one}
use Rattle.book.specs.Ladders.{without_none, stands_none_named, named_reset}

module _ {T : Type 0} where
  all_cleared : (f : Order T → Bool) (p : Pair) (l : List (Order T)) → list_all f l ≡ true → list_all f (cleared p l) ≡ true
  all_cleared f p [] h = refl
  all_cleared f p (x ∷ l) h = let ih = all_cleared f p l in grind (arith, nat_tests)

  pub cleared_in_order : (p : Pair) (l : List (Order T)) → in_order l ≡ true → in_order (cleared p l) ≡ true
  cleared_in_order p [] h = refl
  cleared_in_order p (x ∷ l) h =
      let ih = cleared_in_order p l in
      let a = all_cleared (λ y. ahead x y) p l in
      grind (arith, nat_tests)

  stands_cleared : (q : Pair) (j : OrderId) (p : Pair) (l : List (Order T)) → stands q j l ≡ false → stands q j (cleared p l) ≡ false
  stands_cleared q j p [] h = refl
  stands_cleared q j p (x ∷ l) h = let ih = stands_cleared q j p l in grind (arith, nat_tests)

  pub cleared_apart : (p : Pair) (l : List (Order T)) → apart l ≡ true → apart (cleared p l) ≡ true
  cleared_apart p [] h = refl
  cleared_apart p (x ∷ l) h =
      let ih = cleared_apart p l in
      let s = stands_cleared x.pair x.id p l in
      grind (arith, nat_tests)

  pub placed_length : (o : Order T) (l : List (Order T)) → length (placed o l) ≡ length l + 1
  placed_length o [] = refl
  placed_length o (x ∷ l) = let ih = placed_length o l in grind (arith, nat_tests)

  pub cleared_length : (p : Pair) (l : List (Order T)) → length (cleared p l) ≤ length l
  cleared_length p [] = omega arith
  cleared_length p (x ∷ l) = let ih = cleared_length p l in grind (arith, nat_tests)

  pub amended_length : (p : Pair) (i : OrderId) (a : Amount) (t : T) (l : List (Order T)) → length (amended p i a t l) ≡ length l
  amended_length p i a t [] = refl
  amended_length p i a t (x ∷ l) = ap suc (amended_length p i a t l)

  -- where one has the name, no other does
  pub alone : (p : Pair) (i : OrderId) (x : Order T) (l : List (Order T)) → named p i x ≡ true → not (stands x.pair x.id l) ≡ true → stands p i l ≡ false
  alone p i x l n a = let e = named_one p i x n in ap₂ (λ q j. stands q j l) (sym e.0) (sym e.1) ∙ not-true _ a

  pub without_length : (p : Pair) (i : OrderId) (l : List (Order T)) → apart l ≡ true → stands p i l ≡ true → length (without p i l) + 1 ≡ length l
  without_length p i [] a h = absurd (both_ways _ refl h)
  without_length p i (x ∷ l) a h =
      let ih = without_length p i l in
      let n = alone p i x l in
      let w : stands p i l ≡ false → length (without p i l) ≡ length l = λ e. ap length (without_none p i l e) in
      grind (arith, nat_tests)

  pub amended_rank : (p : Pair) (i : OrderId) (a : Amount) (t : T) (l : List (Order T)) (k : ℕ) → at_rank (amended p i a t l) k ≡ option_map (λ x. cond (named p i x) (reset a t x) x) (at_rank l k)
  amended_rank p i a t [] k = refl
  amended_rank p i a t (x ∷ l) zero = refl
  amended_rank p i a t (x ∷ l) (suc k) = amended_rank p i a t l k

  pub lookup_stands : (p : Pair) (i : OrderId) (l : List (Order T)) → stands p i l ≡ is_some (lookup p i l)
  lookup_stands p i [] = refl
  lookup_stands p i (x ∷ l) = elim (named p i x) as (λ b. (b || stands p i l) ≡ is_some (cond b (Some x) (lookup p i l))) [ true ↦ refl | false ↦ lookup_stands p i l ]

  pub lookup_rank : (p : Pair) (i : OrderId) (l : List (Order T)) (k : ℕ) → apart l ≡ true → k < length l → ((d : Order T) → named p i (slice_index_or l k d) ≡ true) → lookup p i l ≡ at_rank l k
  lookup_rank p i [] k a b h = absurd (omega arith)
  lookup_rank p i (x ∷ l) zero a b h = ap (λ c. cond c (Some x) (lookup p i l)) (h x)
  lookup_rank p i (x ∷ l) (suc k) a b h =
      let parts = and_parts _ _ a in
      let away : named p i x ≡ false = ⊎_elim (λ n. absurd (both_ways _ (stands_none_named p i l k (alone p i x l n parts.0) (omega arith) x) (h x))) (λ n. n) (split (named p i x)) in
      ap (λ c. cond c (Some x) (lookup p i l)) away ∙ lookup_rank p i l k parts.1 (omega arith) (λ d. h d)

  pub lookup_placed : (q : Pair) (j : OrderId) (o : Order T) (l : List (Order T)) → stands o.pair o.id l ≡ false → lookup q j (placed o l) ≡ cond (named q j o) (Some o) (lookup q j l)
  lookup_placed q j o [] h = refl
  lookup_placed q j o (x ∷ l) h =
      let ih = lookup_placed q j o l in
      let n = named_both q j x o in
      grind (arith, nat_tests)

  pub lookup_amended : (q : Pair) (j : OrderId) (p : Pair) (i : OrderId) (a : Amount) (t : T) (l : List (Order T)) → lookup q j (amended p i a t l) ≡ option_map (λ x. cond (named p i x) (reset a t x) x) (lookup q j l)
  lookup_amended q j p i a t [] = refl
  lookup_amended q j p i a t (x ∷ l) =
      let f : Order T → Order T = λ y. cond (named p i y) (reset a t y) y in
      ap₂ (λ b m. cond b (Some (f x)) m) (named_reset a t q j (named p i x) x) (lookup_amended q j p i a t l)
      ∙ elim (named q j x) as (λ b. cond b (Some (f x)) (option_map f (lookup q j l)) ≡ option_map f (cond b (Some x) (lookup q j l))) [ true ↦ refl | false ↦ refl ]

  -- what is of one pair and id, is of another exactly where the two are the same
  of_name : (q : Pair) (j : OrderId) (p : Pair) (i : OrderId) (x : Order T) → named q j x ≡ true → named p i x ≡ (same_pair q p && bytes_eq j.bytes i.bytes)
  unfolding named
  of_name q j p i x n = let e = named_one q j x n in ap₂ (λ y k. same_pair y p && bytes_eq k.bytes i.bytes) e.0 e.1

  of_pair : (q : Pair) (j : OrderId) (p : Pair) (x : Order T) → named q j x ≡ true → same_pair x.pair p ≡ same_pair q p
  of_pair q j p x n = ap (λ y. same_pair y p) (named_one q j x n).0

  pub lookup_without : (q : Pair) (j : OrderId) (p : Pair) (i : OrderId) (l : List (Order T)) → lookup q j (without p i l) ≡ cond (same_pair q p && bytes_eq j.bytes i.bytes) None (lookup q j l)
  lookup_without q j p i [] = grind (arith, nat_tests)
  lookup_without q j p i (x ∷ l) = let ih = lookup_without q j p i l in let n = of_name q j p i x in grind (arith, nat_tests)

  pub lookup_cleared : (q : Pair) (j : OrderId) (p : Pair) (l : List (Order T)) → lookup q j (cleared p l) ≡ cond (same_pair q p) None (lookup q j l)
  lookup_cleared q j p [] = grind (arith, nat_tests)
  lookup_cleared q j p (x ∷ l) = let ih = lookup_cleared q j p l in let n = of_pair q j p x in grind (arith, nat_tests)

  pub lookup_none : (p : Pair) (i : OrderId) (l : List (Order T)) → stands p i l ≡ false → lookup p i l ≡ None
  lookup_none p i l h = go (lookup p i l) refl
    where
      go : (o : Option (Order T)) → lookup p i l ≡ o → lookup p i l ≡ None
      go None e = e
      go (Some x) e = absurd (both_ways _ h (lookup_stands p i l ∙ ap is_some e))

  -- the order that is looked up has the pair and the id
  pub lookup_named : (p : Pair) (i : OrderId) (l : List (Order T)) (x : Order T) → lookup p i l ≡ Some x → named p i x ≡ true
  lookup_named p i [] x h = let z : ◌≡◌ {A = ℕ} 0 1 = cc in absurd (omega arith)
  lookup_named p i (y ∷ l) x h =
      (elim (named p i y) as (λ b. named p i y ≡ b → cond b (Some y) (lookup p i l) ≡ Some x → named p i x ≡ true) [
        | true ↦ λ n e. let same : y ≡ x = cc in ap (named p i) (sym same) ∙ n
        | false ↦ λ n e. lookup_named p i l x e
      ]) refl h

  -- a place that is refused by none of its causes is not refused
  pub not_refused : (n : ℕ) (l : List (Order T)) (o : Order T) (k : ℕ) → PlaceRefused n l o k → stands o.pair o.id l ≡ false → length l < n → ⊥
  not_refused n l o k h s b = ⊎_elim (λ a. both_ways _ s a.1) (λ a. omega (arith, a.2)) h
