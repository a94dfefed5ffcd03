-- The orders that clearing leaves, and placing where nothing is refused.
use Rattle.std.proofs.Common.{◌≡◌, ℕ, zero, suc, ◌+◌, ◌<◌, ◌≤◌, Bool, true, false, cond, not, ◌||◌, List, [], ◌∷◌, length, take, Some, None, sym, refl, ap, ◌∙◌, ap₂, ⊎_elim, add-one, arith}
use Rattle.std.specs.List.{AllByRecursion}
use Rattle.std.proofs.lemmas.Bool.Decides.{nat_tests}
use Rattle.std.proofs.lemmas.Bool.{both_ways, and_parts, and_left, not-true, or_parts, or_from, cases_Bool}
use Rattle.fields.specs.Values.{Pair}
use Rattle.fields.proofs.Sames.{pair_same}
use Rattle.book.specs.declared.order.Order.{Order}
use Rattle.book.specs.Ladder.{OrderId, Ladder, same_pair, named, stands, apart, lookup, at_rank, placed, placed_all, cleared}
use Rattle.book.specs.Orderly.{bytes_sym, bytes_same, named_sym}
use Rattle.book.specs.Ladders.{placed_in_order, placed_apart}
use Rattle.book.specs.Lookups.{placed_length, cleared_in_order, cleared_apart, alone, lookup_placed, lookup_cleared, lookup_none}
use Rattle.snapshot.specs.declared.mark.Mark.{Mark}
use Rattle.snapshot.specs.declared.mark.Mark.TheVariants.{Lists, Puts}
use Rattle.snapshot.specs.Walked.{Runs}
use Rattle.snapshot.specs.Repeats.{Distinct}
use Rattle.snapshot.specs.Listing.{pairs_listed, orders_put, cleared_all, room_needed, replaced}
use Rattle.snapshot.proofs.Repeating.{apart_put}
use Rattle.apply.specs.Marks.{lists, stays, OfListed, clears, Places}

abbrev pub one : Bool → ℕ
one b = cond b 1 0

pub pair_one : (q p : Pair) → same_pair q p ≡ true → q ≡ p
pair_one q p h = pair_same q p (bytes_same q.bytes p.bytes h)

module _ {T : Type 0} where
  pub cleared_cons : (ps : List Pair) (x : Order T) (l : List (Order T)) → cleared_all ps (x ∷ l) ≡ cond (lists ps x.pair) (cleared_all ps l) (x ∷ cleared_all ps l)
  cleared_cons [] x l = refl
  cleared_cons (p ∷ ps) x l =
      ap (λ b. cleared_all ps (cond b (cleared p l) (x ∷ cleared p l))) (bytes_sym x.pair.bytes p.bytes) ∙ by (same_pair p x.pair) (cleared_cons ps x (cleared p l))
    where
      by : (b : Bool) → cleared_all ps (x ∷ cleared p l) ≡ cond (lists ps x.pair) (cleared_all ps (cleared p l)) (x ∷ cleared_all ps (cleared p l)) → cleared_all ps (cond b (cleared p l) (x ∷ cleared p l)) ≡ cond (b || lists ps x.pair) (cleared_all ps (cleared p l)) (x ∷ cleared_all ps (cleared p l))
      by true ih = refl
      by false ih = ih

  pub cleared_none : (ps : List Pair) → cleared_all {T = T} ps [] ≡ []
  cleared_none [] = refl
  cleared_none (p ∷ ps) = cleared_none ps

  -- one more order looked at
  kept_more : (ps : List Pair) (l : List (Order T)) (k : ℕ) → length (cleared_all ps (take (suc k) l)) ≡ length (cleared_all ps (take k l)) + one (stays ps (at_rank l k))
  kept_more ps [] zero = let z = ap length (cleared_none ps) in omega arith
  kept_more ps [] (suc k) = let z = ap length (cleared_none ps) in omega arith
  kept_more ps (x ∷ l) zero =
      let n = ap length (cleared_none ps) in
      let d = ap length (cleared_cons ps x []) in
      by (lists ps x.pair) refl n d
    where
      by : (b : Bool) → lists ps x.pair ≡ b → length (cleared_all {T = T} ps []) ≡ 0 → length (cleared_all ps (x ∷ [])) ≡ length (cond (lists ps x.pair) (cleared_all ps []) (x ∷ cleared_all ps [])) → length (cleared_all ps (x ∷ [])) ≡ length (cleared_all {T = T} ps []) + one (not (lists ps x.pair))
      by b e n d = grind (arith, nat_tests)
  kept_more ps (x ∷ l) (suc k) =
      let ih = kept_more ps l k in
      let c = ap length (cleared_cons ps x (take (suc k) l)) in
      let d = ap length (cleared_cons ps x (take k l)) in
      by (lists ps x.pair) ih c d
    where
      by : (b : Bool) → length (cleared_all ps (take (suc k) l)) ≡ length (cleared_all ps (take k l)) + one (stays ps (at_rank l k))
          → length (cleared_all ps (x ∷ take (suc k) l)) ≡ length (cond b (cleared_all ps (take (suc k) l)) (x ∷ cleared_all ps (take (suc k) l)))
          → length (cleared_all ps (x ∷ take k l)) ≡ length (cond b (cleared_all ps (take k l)) (x ∷ cleared_all ps (take k l)))
          → length (cleared_all ps (x ∷ take (suc k) l)) ≡ length (cleared_all ps (x ∷ take k l)) + one (stays ps (at_rank l k))
      by true ih c d = omega arith
      by false ih c d = omega arith

  pub kept_step : (ps : List Pair) (l : List (Order T)) (k n m : ℕ) (b : Bool) → n ≡ length (cleared_all ps (take k l)) → b ≡ stays ps (at_rank l k) → m ≡ n + one b → m ≡ length (cleared_all ps (take (k + 1) l))
  kept_step ps l k n m b h e s = rw add-one (s ∙ ap₂ (λ x y. x + one y) h e ∙ sym (kept_more ps l k))

  not_named : (p : Pair) (i : OrderId) (x : Order T) → same_pair x.pair p ≡ false → named p i x ≡ false
  unfolding named
  not_named p i x h = and_left _ _ h

  other : (ps : List Pair) (p : Pair) (i : OrderId) (x : Order T) (b : Bool) → lists ps p ≡ b → lists ps x.pair ≡ not b → named p i x ≡ false
  other ps p i x b h e = not_named p i x (⊎_elim (λ s. absurd (apart_from b (sym h ∙ ap (lists ps) (sym (pair_one x.pair p s)) ∙ e))) (λ n. n) (cases_Bool (same_pair x.pair p)))
    where
      apart_from : (b : Bool) → b ≡ not b → ⊥
      apart_from true h = both_ways true h refl
      apart_from false h = both_ways false refl h

  -- no order of a pair that is cleared stands
  pub cleared_gone : (ps : List Pair) (p : Pair) (i : OrderId) (l : List (Order T)) → lists ps p ≡ true → stands p i (cleared_all ps l) ≡ false
  cleared_gone ps p i [] h = ap (stands p i) (cleared_none ps)
  cleared_gone ps p i (x ∷ l) h = ap (stands p i) (cleared_cons ps x l) ∙ by (lists ps x.pair) refl (cleared_gone ps p i l h)
    where
      by : (b : Bool) → lists ps x.pair ≡ b → stands p i (cleared_all ps l) ≡ false → stands p i (cond b (cleared_all ps l) (x ∷ cleared_all ps l)) ≡ false
      by true e ih = ih
      by false e ih = or_from _ _ (other ps p i x true h e) ih

  -- orders of pairs that are listed are of no other pair
  pub none_unlisted : (ps : List Pair) (p : Pair) (i : OrderId) (os : List (Order T)) → AllByRecursion (λ (o : Order T). lists ps o.pair ≡ true) os → lists ps p ≡ false → stands p i os ≡ false
  none_unlisted ps p i [] a h = refl
  none_unlisted ps p i (x ∷ os) a h = or_from _ _ (other ps p i x false h a.0) (none_unlisted ps p i os a.1 h)

  -- where an order of another pair is looked up, clearing changes nothing
  cleared_others : (ps : List Pair) (q : Pair) (j : OrderId) (l : List (Order T)) → lists ps q ≡ false → lookup q j (cleared_all ps l) ≡ lookup q j l
  cleared_others [] q j l h = refl
  cleared_others (p ∷ ps) q j l h =
      let a = or_parts _ _ h in
      cleared_others ps q j (cleared p l) a.1 ∙ lookup_cleared q j p l ∙ ap (λ b. cond b None (lookup q j l)) (bytes_sym q.bytes p.bytes ∙ a.0)

  cleared_all_ladder : (ps : List Pair) (l : List (Order T)) → Ladder l → Ladder (cleared_all ps l)
  cleared_all_ladder [] l h = h
  cleared_all_ladder (p ∷ ps) l h = cleared_all_ladder ps (cleared p l) (record { sorted = cleared_in_order p l h.sorted; distinct = cleared_apart p l h.distinct })

  -- the ids of all are new to the ladder
  abbrev pub New : List (Order T) → List (Order T) → Type 0
  New l os = AllByRecursion (λ x. stands x.pair x.id l ≡ false) os

  -- of pairs that are cleared, no order stands
  pub new_cleared : (ps : List Pair) (l os : List (Order T)) → AllByRecursion (λ (o : Order T). lists ps o.pair ≡ true) os → New (cleared_all ps l) os
  new_cleared ps l [] h = tt
  new_cleared ps l (o ∷ os) h = (cleared_gone ps o.pair o.id l h.0, new_cleared ps l os h.1)

  stands_placed : (p : Pair) (i : OrderId) (o : Order T) (l : List (Order T)) → named p i o ≡ false → stands p i l ≡ false → stands p i (placed o l) ≡ false
  stands_placed p i o [] n h = grind (arith, nat_tests)
  stands_placed p i o (x ∷ l) n h = let ih = stands_placed p i o l n in grind (arith, nat_tests)

  new_placed : (o : Order T) (l os : List (Order T)) → stands o.pair o.id os ≡ false → New l os → New (placed o l) os
  new_placed o l [] s a = tt
  new_placed o l (x ∷ os) s a =
      let b = or_parts _ _ s in
      (stands_placed x.pair x.id o l (sym (named_sym o x) ∙ b.0) a.0, new_placed o l os b.1 a.1)

  module _ (o : Order T) (os l : List (Order T)) (a : apart (o ∷ os) ≡ true) (n : New l (o ∷ os)) where
    pub first_new : New (placed o l) os
    first_new = new_placed o l os (not-true _ (and_parts _ _ a).0) n.1

    pub rest_apart : apart os ≡ true
    rest_apart = (and_parts _ _ a).1

  placed_all_ladder : (os l : List (Order T)) → apart os ≡ true → New l os → Ladder l → Ladder (placed_all l os)
  placed_all_ladder [] l a n h = h
  placed_all_ladder (o ∷ os) l a n h = placed_all_ladder os (placed o l) (rest_apart o os l a n) (first_new o os l a n)
      (record { sorted = placed_in_order o l h.sorted; distinct = placed_apart o l h.distinct n.0 })

  pub placed_all_length : (os l : List (Order T)) → length (placed_all l os) ≡ length l + length os
  placed_all_length [] l = omega arith
  placed_all_length (o ∷ os) l = let n = placed_length o l in let ih = placed_all_length os (placed o l) in omega arith

  placed_others : (q : Pair) (j : OrderId) (os l : List (Order T)) → apart os ≡ true → New l os → stands q j os ≡ false → lookup q j (placed_all l os) ≡ lookup q j l
  placed_others q j [] l a n h = refl
  placed_others q j (o ∷ os) l a n h =
      let b = or_parts _ _ h in
      placed_others q j os (placed o l) (rest_apart o os l a n) (first_new o os l a n) b.1
      ∙ lookup_placed q j o l n.0 ∙ ap (λ t. cond t (Some o) (lookup q j l)) b.0

  placed_own : (q : Pair) (j : OrderId) (os l : List (Order T)) → apart os ≡ true → New l os → stands q j l ≡ false → lookup q j (placed_all l os) ≡ lookup q j os
  placed_own q j [] l a n h = lookup_none q j l h
  placed_own q j (o ∷ os) l a n h =
      (elim (named q j o) as (λ b. named q j o ≡ b → lookup q j (placed_all (placed o l) os) ≡ cond b (Some o) (lookup q j os)) [
        | true ↦ λ e. placed_others q j os (placed o l) (rest_apart o os l a n) (first_new o os l a n) (alone q j o os e (and_parts _ _ a).0)
            ∙ lookup_placed q j o l n.0 ∙ ap (λ t. cond t (Some o) (lookup q j l)) e
        | false ↦ λ e. placed_own q j os (placed o l) (rest_apart o os l a n) (first_new o os l a n) (stands_placed q j o l e h)
      ]) refl

  module _ (l : List (Order T)) (ms : List (Mark T)) (d : Distinct ms) (w : OfListed ms) where
    pub new_put : New (cleared_all (pairs_listed ms) l) (orders_put ms)
    new_put = new_cleared (pairs_listed ms) l (orders_put ms) w

    pub replaced_listed : (q : Pair) (j : OrderId) → lists (pairs_listed ms) q ≡ true → lookup q j (replaced ms l) ≡ lookup q j (orders_put ms)
    replaced_listed q j h = placed_own q j (orders_put ms) (cleared_all (pairs_listed ms) l) (apart_put ms d) new_put (cleared_gone (pairs_listed ms) q j l h)

    pub replaced_others : (q : Pair) (j : OrderId) → lists (pairs_listed ms) q ≡ false → lookup q j (replaced ms l) ≡ lookup q j l
    replaced_others q j h = placed_others q j (orders_put ms) (cleared_all (pairs_listed ms) l) (apart_put ms d) new_put (none_unlisted (pairs_listed ms) q j (orders_put ms) w h)
        ∙ cleared_others (pairs_listed ms) q j l h

    pub replaced_ladder : Ladder l → Ladder (replaced ms l)
    replaced_ladder h = placed_all_ladder (orders_put ms) (cleared_all (pairs_listed ms) l) (apart_put ms d) new_put (cleared_all_ladder (pairs_listed ms) l h)

  pub replaced_length : (l : List (Order T)) (ms : List (Mark T)) → length (replaced ms l) ≡ room_needed ms l
  replaced_length l ms = placed_all_length (orders_put ms) (cleared_all (pairs_listed ms) l)

  module _ {B : Type 0} (ladder : B → List (Order T)) (capacity : B → ℕ) where
    abbrev pub ClearsIn : B → Mark T → B → Type 0
    ClearsIn b k c = (ladder c ≡ clears k (ladder b)) × (capacity c ≡ capacity b)

    pub clear_runs : (b c : B) (ms : List (Mark T)) → Runs ClearsIn b ms c → (ladder c ≡ cleared_all (pairs_listed ms) (ladder b)) × (capacity c ≡ capacity b)
    clear_runs b c [] h = (ap ladder h, ap capacity h)
    clear_runs b c (Lists p q ∷ ms) h = let r = clear_runs h.0 c ms h.2 in (r.0 ∙ ap (cleared_all (pairs_listed ms)) h.1.0, r.1 ∙ h.1.1)
    clear_runs b c (Puts p o ∷ ms) h = let r = clear_runs h.0 c ms h.2 in (r.0 ∙ ap (cleared_all (pairs_listed ms)) h.1.0, r.1 ∙ h.1.1)

    abbrev pub PlacesIn : B → Mark T → B → Type 0
    PlacesIn b k c = Places (capacity b) k (ladder b) (ladder c) × (capacity c ≡ capacity b)

    pub place_runs_capacity : (b c : B) (ms : List (Mark T)) → Runs PlacesIn b ms c → capacity c ≡ capacity b
    place_runs_capacity b c [] h = ap capacity h
    place_runs_capacity b c (k ∷ ms) h = place_runs_capacity h.0 c ms h.2 ∙ h.1.1

    -- where ids are apart and new, and there is room, each order is placed
    pub place_runs : (b c : B) (ms : List (Mark T)) (l : List (Order T)) → ladder b ≡ l → apart (orders_put ms) ≡ true → New l (orders_put ms) → length l + length (orders_put ms) ≤ capacity b
        → Runs PlacesIn b ms c → ladder c ≡ placed_all l (orders_put ms)
    place_runs b c [] l e a n f h = ap ladder h ∙ e
    place_runs b c (Lists p q ∷ ms) l e a n f h = place_runs h.0 c ms l (h.1.0 ∙ e) a n (let z = h.1.1 in omega arith) h.2
    place_runs b c (Puts p o ∷ ms) l e a n f h =
        let long = placed_length o l in
        let same = ap length e in
        let room : length (ladder b) < capacity b = omega arith in
        let z = h.1.1 in
        place_runs h.0 c ms (placed o l) (h.1.0 (ap (stands o.pair o.id) e ∙ n.0) room ∙ ap (placed o) e) (rest_apart o (orders_put ms) l a n) (first_new o (orders_put ms) l a n) (omega arith) h.2
