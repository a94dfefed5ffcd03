-- What is said of a message on one order leaves no choice of the ladder after it.
use Rattle.std.proofs.Common.{◌≡◌, ℕ, zero, suc, ◌≤◌, true, false, not, ◌&&◌, ◌||◌, leb, List, [], ◌∷◌, ◌++◌, length, is_some, Some, None, Ok, Err, Option, sym, refl, ap, ◌∙◌, ap₂, ⊎_elim, arith}
use Rattle.std.proofs.lemmas.Bool.{cond-true, cond-false, both_ways, and_parts, le-leb, lt-leb}
use Rattle.std.proofs.lemmas.Bool.Decides.{nat_tests}
use Rattle.fields.specs.Values.{Pair, Price}
use Rattle.book.specs.declared.order.Order.{Order}
use Rattle.book.specs.Ladder.{OrderId, Ladder, named, apart, stands, lookup, at_rank, placed, without, amended, reset}
use Rattle.book.specs.Orderly.{split}
use Rattle.book.specs.Ladders.{placed_only, without_none}
use Rattle.book.specs.Lookups.{alone, lookup_stands, lookup_named}
use Rattle.venue.specs.Form as venue
use Rattle.message.specs.declared.messages.Cancel.{Cancel}
use Rattle.message.specs.declared.messages.Modify.{Modify}
use Rattle.orders.specs.Applied.{After, ids_agree, new_after, cancel_after, target, order_of_active, taken, changed, modify_after}
use Rattle.orders.specs.Laws.{StandsIn, Removed, NewSays, CancelSays, Free, AmendDone, ChangeDone, ModifySays}
use Rattle.orders.proofs.Afters.{modify_none, modify_taken, modify_done}
use Rattle.orders.proofs.Standings.{same_one, one_same, named_self, amend}

module _ {T : Type 0} where
  stands_some : (p : Pair) (i : OrderId) (l : List (Order T)) → StandsIn l p i → stands p i l ≡ true
  stands_some p i l s = lookup_stands p i l ∙ ap is_some s.1

  stands_none : (p : Pair) (i : OrderId) (l : List (Order T)) → lookup p i l ≡ None → stands p i l ≡ false
  stands_none p i l e = lookup_stands p i l ∙ ap is_some e

  pub new_only : (capacity : ℕ) (l : List (Order T)) (o : Order T) (a : After T) → NewSays l capacity o a → a ≡ new_after capacity l o
  unfolding new_after
  new_only capacity l o (Ok l') d =
      ap Ok (placed_only o l l' d.put) ∙ sym (cond-false (stands o.pair o.id l) _ _ (stands_none o.pair o.id l d.free) ∙ cond-false (leb capacity (length l)) _ _ (lt-leb capacity (length l) d.room))
  new_only capacity l o (Err e) d = ⊎_elim
      (λ s. ap Err s.0 ∙ sym (cond-true (stands o.pair o.id l) _ _ (stands_some o.pair o.id l s.1)))
      (λ s. let full : capacity ≤ length l = omega (arith, s.2) in
      ap Err s.0 ∙ sym (cond-false (stands o.pair o.id l) _ _ (stands_none o.pair o.id l s.1) ∙ cond-true (leb capacity (length l)) _ _ (le-leb capacity (length l) full)))
      d

  stands_middle : (p : Pair) (i : OrderId) (a : List (Order T)) (o : Order T) (b : List (Order T)) → named p i o ≡ true → stands p i (a ++ (o ∷ b)) ≡ true
  stands_middle p i [] o b n = ap (λ c. c || stands p i b) n
  stands_middle p i (x ∷ a) o b n = let ih = stands_middle p i a o b n in grind (arith, nat_tests)

  without_middle : (p : Pair) (i : OrderId) (a : List (Order T)) (o : Order T) (b : List (Order T)) → named p i o ≡ true → apart (a ++ (o ∷ b)) ≡ true → without p i (a ++ (o ∷ b)) ≡ a ++ b
  without_middle p i [] o b n d =
      cond-true (named p i o) _ _ n ∙ without_none p i b (alone p i o b n (and_parts _ _ d).0)
  without_middle p i (x ∷ a) o b n d =
      let parts = and_parts _ _ d in
      let away : named p i x ≡ false = ⊎_elim (λ m. absurd (both_ways _ (alone p i x (a ++ (o ∷ b)) m parts.0) (stands_middle p i a o b n))) (λ m. m) (split (named p i x)) in
      cond-false (named p i x) _ _ away ∙ ap (λ z. x ∷ z) (without_middle p i a o b n parts.1)

  removed_only : (p : Pair) (i : OrderId) (l : List (Order T)) (o : Order T) (l' : List (Order T)) → apart l ≡ true → lookup p i l ≡ Some o → Removed o l l' → l' ≡ without p i l
  removed_only p i l o l' d s r =
      r.is ∙ sym (without_middle p i r.front o r.back (lookup_named p i l o s) (ap apart (sym r.was) ∙ d)) ∙ ap (without p i) (sym r.was)

  pub cancel_only : (l : List (Order T)) (x : Cancel) → Ladder l → (a : After T) → CancelSays l x a → a ≡ cancel_after l x
  unfolding cancel_after
  cancel_only l x h (Ok l') d =
      ap Ok (removed_only x.pair x.id l d.old l' h.distinct d.stood d.removed) ∙ sym (cond-true (stands x.pair x.id l) _ _ (stands_some x.pair x.id l (d.old, d.stood)))
  cancel_only l x h (Err e) d = ap Err d.0 ∙ sym (cond-false (stands x.pair x.id l) _ _ (stands_none x.pair x.id l d.1))

  -- the order of a pair and id stands at one rank
  stands_at : (p : Pair) (i : OrderId) (l : List (Order T)) (k : ℕ) (y : Order T) → at_rank l k ≡ Some y → named p i y ≡ true → stands p i l ≡ true
  stands_at p i [] k y e n = cc
  stands_at p i (x ∷ l) zero y e n = let same : y ≡ x = cc in let m : named p i x ≡ true = ap (named p i) (sym same) ∙ n in grind (arith, nat_tests)
  stands_at p i (x ∷ l) (suc k) y e n = let ih = stands_at p i l k y e n in grind (arith, nat_tests)

  lookup_at : (p : Pair) (i : OrderId) (l : List (Order T)) (k : ℕ) (y : Order T) → apart l ≡ true → at_rank l k ≡ Some y → named p i y ≡ true → lookup p i l ≡ Some y
  lookup_at p i [] k y d e n = cc
  lookup_at p i (x ∷ l) zero y d e n = let same : y ≡ x = cc in cond-true (named p i x) _ _ (ap (named p i) (sym same) ∙ n) ∙ ap Some (sym same)
  lookup_at p i (x ∷ l) (suc k) y d e n =
      let parts = and_parts _ _ d in
      let away : named p i x ≡ false = ⊎_elim (λ m. absurd (both_ways _ (alone p i x l m parts.0) (stands_at p i l k y e n))) (λ m. m) (split (named p i x)) in
      cond-false (named p i x) _ _ away ∙ lookup_at p i l k y parts.1 e n

  -- a ladder whose ranks are those of the amended one is that one
  amended_only : (x : Modify T) (l l' : List (Order T)) → length l' ≡ length l → ((k : ℕ) (y : Order T) → at_rank l k ≡ Some y → at_rank l' k ≡ Some (amend x y)) → l' ≡ amended x.pair (target x) x.amount x.terms l
  amended_only x [] [] n f = refl
  amended_only x [] (y ∷ l') n f = absurd (omega arith)
  amended_only x (z ∷ l) [] n f = absurd (omega arith)
  amended_only x (z ∷ l) (y ∷ l') n f =
      let first = f zero z refl in
      let same : y ≡ amend x z = cc in
      let rest : length l' ≡ length l = omega arith in
      ap₂ ◌∷◌ same (amended_only x l l' rest (λ k w e. f (suc k) w e))

  module _ (l : List (Order T)) (x : Modify T) (h : Ladder l) (old : Order T) (stood : lookup x.pair (target x) l ≡ Some old) (l' : List (Order T)) where
    amends : AmendDone l x old l' → (k : ℕ) (y : Order T) → at_rank l k ≡ Some y → at_rank l' k ≡ Some (amend x y)
    amends d k y e = ⊎_elim
        (λ n. let found = lookup_at x.pair (target x) l k y h.distinct e n in
        let same : y ≡ old = cc in
        d.rank k (e ∙ ap Some same) ∙ ap (λ o. Some (reset x.amount x.terms o)) (sym same) ∙ ap Some (sym (cond-true (named x.pair (target x) y) _ _ n)))
        (λ n. d.ranks k y e (λ a b. both_ways _ n (ap₂ (λ p i. named p i y) (sym a) (sym b) ∙ named_self y)) ∙ ap Some (sym (cond-false (named x.pair (target x) y) _ _ n)))
        (split (named x.pair (target x) y))

    change_only : (v : Option Price) → length l' ≡ length l → ChangeDone l x v old l' → l' ≡ changed l x v old.side
    change_only None n d = amended_only x l l' n (amends d)
    change_only (Some price) n d =
        let o = order_of_active x price old.side in
        placed_only o d.between l' d.put ∙ ap (placed o) (removed_only x.pair (target x) l old d.between h.distinct stood d.removed)

  free_not_taken : (l : List (Order T)) (x : Modify T) → Free l x → taken l x ≡ false
  free_not_taken l x f = ⊎_elim
      (λ e. ap (λ b. not b && stands x.pair x.active l) (one_same (target x) x.active (sym e)))
      (λ e. let s = stands_none x.pair x.active l e in grind (arith, nat_tests))
      f

  other_taken : (l : List (Order T)) (x : Modify T) → (x.active ≡ target x → ⊥) → StandsIn l x.pair x.active → taken l x ≡ true
  other_taken l x differ s =
      let n : ids_agree (target x) x.active ≡ false = ⊎_elim (λ e. absurd (differ (sym (same_one (target x) x.active e)))) (λ e. e) (split (ids_agree (target x) x.active)) in
      ap₂ (λ b c. not b && c) n (stands_some x.pair x.active l s)

  pub modify_only : (F : venue.Form T) (l : List (Order T)) (x : Modify T) → Ladder l → (a : After T) → ModifySays l F x a → a ≡ modify_after F l x
  modify_only F l x h (Ok l') d =
      ap Ok (change_only l x h d.old d.stood l' x.price d.long d.done) ∙ sym (modify_done F l x d.old d.stood (free_not_taken l x d.free))
  modify_only F l x h (Err e) d = ⊎_elim
      (λ s. ap Err s.0 ∙ sym (modify_none F l x s.1))
      (λ s. ap Err s.0 ∙ sym (modify_taken F l x s.1.0 s.1.1 (other_taken l x s.2 s.3)))
      d
