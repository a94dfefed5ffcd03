-- What placing and removing do to a ladder that is in order and has no id twice.
use Rattle.std.specs.Prelude.{◌≡◌, ℕ, zero, suc, ◌<◌, ◌≤◌, Bool, true, false, cond, not, ◌&&◌, ◌||◌, List, [], ◌∷◌, ◌++◌, length, is_some, Some, None, Option, slice_index_or}
use Rattle.std.proofs.Math.Path.{refl}
use Rattle.std.proofs.Common.{sym, ap, ap₂, ◌∙◌, append_assoc, append-nil, ⊎_elim, arith}
use Rattle.std.specs.List.{list_all, AllByRecursion}
use Rattle.std.proofs.lemmas.Bool.{both_ways, and_parts, and_from}
use Rattle.std.proofs.lemmas.Bool.Decides.{nat_tests}
use Rattle.book.specs.Ladder.{OrderId, ahead, named, at_level, in_order, apart, stands, placed, without, placed_all, at_rank, reset, amended, Placed}
use Rattle.book.specs.Calls.{Finds}
use Rattle.std.specs.Str.{bytes_eq}
use Rattle.fields.specs.Values.{Pair, Price, Amount}
use Rattle.book.specs.declared.order.Side.{Side}
use Rattle.book.specs.declared.order.Order.{Order}
use Rattle.book.specs.Orderly.{ahead_total, ahead_trans, level_both, named_sym, split, bytes_same, same_bytes, level_order, level_front}

module _ {T : Type 0} where
  -- what is behind a later one is behind an earlier one
  all_behind : (x y : Order T) → ahead x y ≡ true → (l : List (Order T)) → list_all (λ z. ahead y z) l ≡ true → list_all (λ z. ahead x z) l ≡ true
  all_behind x y h [] a = refl
  all_behind x y h (z ∷ l) a =
      let p = and_parts _ _ a in
      and_from _ _ (ahead_trans x y z h p.0) (all_behind x y h l p.1)

  all_placed : (x o : Order T) → ahead x o ≡ true → (l : List (Order T)) → list_all (λ z. ahead x z) l ≡ true → list_all (λ z. ahead x z) (placed o l) ≡ true
  all_placed x o h [] a = and_from _ _ h refl
  all_placed x o h (z ∷ l) a = let ih = all_placed x o h l in grind (arith, nat_tests)

  pub placed_in_order : (o : Order T) (l : List (Order T)) → in_order l ≡ true → in_order (placed o l) ≡ true
  placed_in_order o [] s = refl
  placed_in_order o (x ∷ l) s =
      let p = and_parts _ _ s in
      (elim (ahead x o) as (λ b. ahead x o ≡ b → in_order (cond b (x ∷ placed o l) (o ∷ (x ∷ l))) ≡ true) [
        | true ↦ λ e. and_from _ _ (all_placed x o e l p.0) (placed_in_order o l p.1)
        | false ↦ λ e. and_from _ _ (and_from _ _ (ahead_total x o e) (all_behind o x (ahead_total x o e) l p.0)) s
      ]) refl

  stands_placed : (p : Pair) (i : OrderId) (o : Order T) (l : List (Order T)) → named p i o ≡ false → stands p i l ≡ false → stands p i (placed o l) ≡ false
  stands_placed p i o [] n h = grind (arith, nat_tests)
  stands_placed p i o (x ∷ l) n h = let ih = stands_placed p i o l n in grind (arith, nat_tests)

  pub placed_apart : (o : Order T) (l : List (Order T)) → apart l ≡ true → stands o.pair o.id l ≡ false → apart (placed o l) ≡ true
  placed_apart o [] a h = refl
  placed_apart o (x ∷ l) a h =
      let ih = placed_apart o l in
      let s = named_sym x o in
      let t = stands_placed x.pair x.id o l in
      grind (arith, nat_tests)

  -- placing an order that all are ahead of puts it last
  pub placed_last : (o : Order T) (l : List (Order T)) → list_all (λ x. ahead x o) l ≡ true → placed o l ≡ l ++ (o ∷ [])
  placed_last o [] h = refl
  placed_last o (x ∷ l) h = let ih = placed_last o l in grind (arith, nat_tests)

  pub without_none : (p : Pair) (i : OrderId) (l : List (Order T)) → stands p i l ≡ false → without p i l ≡ l
  without_none p i [] h = refl
  without_none p i (x ∷ l) h = let ih = without_none p i l in grind (arith, nat_tests)

  all_without : (f : Order T → Bool) (p : Pair) (i : OrderId) (l : List (Order T)) → list_all f l ≡ true → list_all f (without p i l) ≡ true
  all_without f p i [] h = refl
  all_without f p i (x ∷ l) h = let ih = all_without f p i l in grind (arith, nat_tests)

  pub without_in_order : (p : Pair) (i : OrderId) (l : List (Order T)) → in_order l ≡ true → in_order (without p i l) ≡ true
  without_in_order p i [] h = refl
  without_in_order p i (x ∷ l) h =
      let ih = without_in_order p i l in
      let a = all_without (λ y. ahead x y) p i l in
      grind (arith, nat_tests)

  pub stands_without : (q : Pair) (j : OrderId) (p : Pair) (i : OrderId) (l : List (Order T)) → stands q j l ≡ false → stands q j (without p i l) ≡ false
  stands_without q j p i [] h = refl
  stands_without q j p i (x ∷ l) h = let ih = stands_without q j p i l in grind (arith, nat_tests)

  pub without_apart : (p : Pair) (i : OrderId) (l : List (Order T)) → apart l ≡ true → apart (without p i l) ≡ true
  without_apart p i [] h = refl
  without_apart p i (x ∷ l) h =
      let ih = without_apart p i l in
      let s = stands_without x.pair x.id p i l in
      grind (arith, nat_tests)

  middle_ahead : (a : List (Order T)) (o : Order T) (b : List (Order T)) → in_order (a ++ (o ∷ b)) ≡ true → list_all (λ x. ahead x o) a ≡ true
  middle_ahead [] o b h = refl
  middle_ahead (x ∷ a) o b h =
      let p = and_parts _ _ h in
      and_from _ _ (pass_middle a o b (λ z. ahead x z) p.0) (middle_ahead a o b p.1)
    where
      pass_middle : (a : List (Order T)) (o : Order T) (b : List (Order T)) (f : Order T → Bool) → list_all f (a ++ (o ∷ b)) ≡ true → f o ≡ true
      pass_middle [] o b f h = (and_parts _ _ h).0
      pass_middle (x ∷ a) o b f h = pass_middle a o b f (and_parts _ _ h).1

  -- placing the rest of a ladder after its front gives the ladder
  pub placed_all_from : (a b : List (Order T)) → in_order (a ++ b) ≡ true → placed_all a b ≡ a ++ b
  placed_all_from a [] h = sym (append-nil a)
  placed_all_from a (o ∷ b) h =
      let p = placed_last o a (middle_ahead a o b h) in
      let e : (a ++ (o ∷ [])) ++ b ≡ a ++ (o ∷ b) = append_assoc a (o ∷ []) b in
      ap (λ z. placed_all z b) p ∙ placed_all_from (a ++ (o ∷ [])) b (ap in_order e ∙ h) ∙ e

  -- a ladder's own orders, placed in order from nothing, give the ladder back
  pub placed_all_own : (l : List (Order T)) → in_order l ≡ true → placed_all [] l ≡ l
  placed_all_own l h = placed_all_from [] l h

  stands_nowhere : (p : Pair) (i : OrderId) (l : List (Order T)) → AllByRecursion (λ x. named p i x ≡ false) l → stands p i l ≡ false
  stands_nowhere p i [] h = refl
  stands_nowhere p i (x ∷ l) h = let ih = stands_nowhere p i l h.1 in let n = h.0 in grind (arith, nat_tests)

  stands_there : (p : Pair) (i : OrderId) (l : List (Order T)) (k : ℕ) → k < length l → ((d : Order T) → named p i (slice_index_or l k d) ≡ true) → stands p i l ≡ true
  stands_there p i [] k b h = absurd (omega arith)
  stands_there p i (x ∷ l) zero b h = let n = h x in grind (arith, nat_tests)
  stands_there p i (x ∷ l) (suc k) b h = let ih : stands p i l ≡ true = stands_there p i l k (omega arith) (λ d. h d) in grind (arith, nat_tests)

  -- where none of this pair and id stands, none at a rank is it
  pub stands_none_named : (p : Pair) (i : OrderId) (l : List (Order T)) (k : ℕ) → stands p i l ≡ false → k < length l → (d : Order T) → named p i (slice_index_or l k d) ≡ false
  stands_none_named p i [] k s b d = absurd (omega arith)
  stands_none_named p i (x ∷ l) zero s b d = grind (arith, nat_tests)
  stands_none_named p i (x ∷ l) (suc k) s b d = let t : stands p i l ≡ false = grind (arith, nat_tests) in stands_none_named p i l k t (omega arith) d

  -- a rank is found exactly where the order stands
  pub finds_stands : (p : Pair) (i : OrderId) (l : List (Order T)) (r : Option ℕ) → Finds (named p i) l r → stands p i l ≡ is_some r
  finds_stands p i l None h = stands_nowhere p i l h
  finds_stands p i l (Some k) h = stands_there p i l k h.0 h.1

  pub without_gone : (p : Pair) (i : OrderId) (l : List (Order T)) → stands p i (without p i l) ≡ false
  without_gone p i [] = refl
  without_gone p i (x ∷ l) = let ih = without_gone p i l in grind (arith, nat_tests)

  other_name : (p : Pair) (i j : OrderId) → bytes_eq i.bytes j.bytes ≡ false → (x : Order T) → named p i x ≡ true → named p j x ≡ false
  unfolding named
  other_name p i j n x h =
      let a = bytes_same x.id.bytes i.bytes in
      let b = bytes_same x.id.bytes j.bytes in
      let c : bytes_eq x.id.bytes i.bytes ≡ true → bytes_eq x.id.bytes j.bytes ≡ true → ⊥ = λ s t. both_ways _ n (same_bytes i.bytes j.bytes (sym (a s) ∙ b t)) in
      grind (arith, nat_tests)

  pub stands_others : (p : Pair) (i j : OrderId) → bytes_eq i.bytes j.bytes ≡ false → (l : List (Order T)) → stands p j (without p i l) ≡ stands p j l
  stands_others p i j n [] = refl
  stands_others p i j n (x ∷ l) = let ih = stands_others p i j n l in let o = other_name p i j n x in grind (arith, nat_tests)

  without_length : (p : Pair) (i : OrderId) (l : List (Order T)) → length (without p i l) ≤ length l
  without_length p i [] = omega arith
  without_length p i (x ∷ l) = let ih = without_length p i l in grind (arith, nat_tests)

  pub without_shorter : (p : Pair) (i : OrderId) (l : List (Order T)) → stands p i l ≡ true → length (without p i l) < length l
  without_shorter p i [] h = absurd (both_ways _ refl h)
  without_shorter p i (x ∷ l) h = let ih = without_shorter p i l in let w = without_length p i l in grind (arith, nat_tests)

  pub at_rank_past : (l : List (Order T)) (k : ℕ) → length l ≤ k → at_rank l k ≡ None
  at_rank_past [] k h = refl
  at_rank_past (x ∷ l) zero h = absurd (omega arith)
  at_rank_past (x ∷ l) (suc k) h = at_rank_past l k (omega arith)

  -- amending an order changes neither the order nor the names
  module _ (a : Amount) (t : T) where
    ahead_reset : (b c : Bool) (x y : Order T) → ahead (cond b (reset a t x) x) (cond c (reset a t y) y) ≡ ahead x y
    unfolding ahead
    ahead_reset true true x y = refl
    ahead_reset true false x y = refl
    ahead_reset false true x y = refl
    ahead_reset false false x y = refl

    pub named_reset : (q : Pair) (j : OrderId) (c : Bool) (y : Order T) → named q j (cond c (reset a t y) y) ≡ named q j y
    unfolding named
    named_reset q j true y = refl
    named_reset q j false y = refl

    pair_reset : (c : Bool) (y : Order T) → (cond c (reset a t y) y).pair ≡ y.pair
    pair_reset true y = refl
    pair_reset false y = refl

    id_reset : (c : Bool) (y : Order T) → (cond c (reset a t y) y).id ≡ y.id
    id_reset true y = refl
    id_reset false y = refl

    all_amended : (p : Pair) (i : OrderId) (b : Bool) (x : Order T) (l : List (Order T)) → list_all (λ y. ahead (cond b (reset a t x) x) y) (amended p i a t l) ≡ list_all (λ y. ahead x y) l
    all_amended p i b x [] = refl
    all_amended p i b x (y ∷ l) = ap₂ ◌&&◌ (ahead_reset b (named p i y) x y) (all_amended p i b x l)

    pub amended_in_order : (p : Pair) (i : OrderId) (l : List (Order T)) → in_order (amended p i a t l) ≡ in_order l
    amended_in_order p i [] = refl
    amended_in_order p i (x ∷ l) = ap₂ ◌&&◌ (all_amended p i (named p i x) x l) (amended_in_order p i l)

    stands_amended : (p : Pair) (i : OrderId) (q : Pair) (j : OrderId) (l : List (Order T)) → stands q j (amended p i a t l) ≡ stands q j l
    stands_amended p i q j [] = refl
    stands_amended p i q j (y ∷ l) = ap₂ ◌||◌ (named_reset q j (named p i y) y) (stands_amended p i q j l)

    pub amended_apart : (p : Pair) (i : OrderId) (l : List (Order T)) → apart (amended p i a t l) ≡ apart l
    amended_apart p i [] = refl
    amended_apart p i (x ∷ l) =
        ap₂ ◌&&◌ (ap not (stands_amended p i _ _ l ∙ ap₂ (λ q j. stands q j l) (pair_reset (named p i x) x) (id_reset (named p i x) x))) (amended_apart p i l)

    pub amended_none : (p : Pair) (i : OrderId) (l : List (Order T)) → stands p i l ≡ false → amended p i a t l ≡ l
    amended_none p i [] h = refl
    amended_none p i (x ∷ l) h =
        let n : named p i x ≡ false = grind (arith, nat_tests) in
        let s : stands p i l ≡ false = grind (arith, nat_tests) in
        ap₂ ◌∷◌ (ap (λ b. cond b (reset a t x) x) n) (amended_none p i l s)

  -- in a ladder, placing opens it, and only placing does
  all_from_pass : (f : Order T → Bool) (l : List (Order T)) → AllByRecursion (λ x. f x ≡ true) l → list_all f l ≡ true
  all_from_pass f [] h = refl
  all_from_pass f (x ∷ l) h = and_from _ _ h.0 (all_from_pass f l h.1)

  -- behind one that is not ahead of o, none is ahead of o
  none_ahead : (o x : Order T) → ahead x o ≡ false → (l : List (Order T)) → list_all (λ y. ahead x y) l ≡ true → AllByRecursion (λ y. ahead y o ≡ false) l
  none_ahead o x n [] h = tt
  none_ahead o x n (y ∷ l) h =
      let p = and_parts _ _ h in
      (⊎_elim (λ e. absurd (both_ways _ n (ahead_trans x y o p.0 e))) (λ e. e) (split (ahead y o)), none_ahead o x n l p.1)

  pub placed_is : (o : Order T) (l : List (Order T)) → in_order l ≡ true → Placed o l (placed o l)
  placed_is o [] h = record { front = []; back = []; was = refl; is = refl; ahead_of = tt; behind = tt }
  placed_is o (x ∷ l) h =
      let p = and_parts _ _ h in
      (elim (ahead x o) as (λ b. ahead x o ≡ b → Placed o (x ∷ l) (cond b (x ∷ placed o l) (o ∷ (x ∷ l)))) [
        | true ↦ λ e. let r = placed_is o l p.1 in record { front = x ∷ r.front; back = r.back; was = ap (λ z. x ∷ z) r.was; is = ap (λ z. x ∷ z) r.is; ahead_of = (e, r.ahead_of); behind = r.behind }
        | false ↦ λ e. record { front = []; back = x ∷ l; was = refl; is = refl; ahead_of = tt; behind = (e, none_ahead o x e l p.0) }
      ]) refl

  placed_between : (o : Order T) (a b : List (Order T)) → AllByRecursion (λ x. ahead x o ≡ true) a → AllByRecursion (λ x. ahead x o ≡ false) b → placed o (a ++ b) ≡ a ++ (o ∷ b)
  placed_between o [] [] h k = refl
  placed_between o [] (x ∷ b) h k = ap (λ c. cond c (x ∷ placed o b) (o ∷ (x ∷ b))) k.0
  placed_between o (x ∷ a) b h k = ap (λ c. cond c (x ∷ placed o (a ++ b)) (o ∷ (x ∷ (a ++ b)))) h.0 ∙ ap (λ z. x ∷ z) (placed_between o a b h.1 k)

  pub placed_only : (o : Order T) (l m : List (Order T)) → Placed o l m → m ≡ placed o l
  placed_only o l m r = r.is ∙ sym (placed_between o r.front r.back r.ahead_of r.behind) ∙ sym (ap (placed o) r.was)

  all_from_all_pass : (f : Order T → Bool) (l : List (Order T)) → list_all f l ≡ true → AllByRecursion (λ x. f x ≡ true) l
  all_from_all_pass f [] h = tt
  all_from_all_pass f (x ∷ l) h = let p = and_parts _ _ h in (p.0, all_from_all_pass f l p.1)

  not_ahead : (o : Order T) (l : List (Order T)) → list_all (λ y. ahead o y) l ≡ true → AllByRecursion (λ x. at_level o.pair o.side o.price x ≡ false) l → AllByRecursion (λ x. ahead x o ≡ false) l
  not_ahead o [] h n = tt
  not_ahead o (x ∷ l) h n =
      let p = and_parts _ _ h in
      (⊎_elim (λ e. absurd (both_ways _ n.0 (level_both o x p.0 e))) (λ e. e) (split (ahead x o)), not_ahead o l p.1 n.1)

  after_middle : (a : List (Order T)) (o : Order T) (b : List (Order T)) → in_order (a ++ (o ∷ b)) ≡ true → list_all (λ y. ahead o y) b ≡ true
  after_middle [] o b h = (and_parts _ _ h).0
  after_middle (x ∷ a) o b h = after_middle a o b (and_parts _ _ h).1

  pub one_place : (o : Order T) (a b : List (Order T)) → in_order (a ++ (o ∷ b)) ≡ true → AllByRecursion (λ x. at_level o.pair o.side o.price x ≡ false) b → a ++ (o ∷ b) ≡ placed o (a ++ b)
  one_place o a b h n = sym (placed_between o a b (all_from_all_pass (λ x. ahead x o) a (middle_ahead a o b h)) (not_ahead o b (after_middle a o b h) n))

  -- behind an order that those at a pair, side and price are ahead of or level with, and that is not there, none is there
  pub none_level : (p : Pair) (s : Side) (c : Price) (x : Order T) → ahead (level_order p s c x) x ≡ true → at_level p s c x ≡ false → (l : List (Order T)) → list_all (λ z. ahead x z) l ≡ true → AllByRecursion (λ z. at_level p s c z ≡ false) l
  none_level p s c x f n [] h = tt
  none_level p s c x f n (z ∷ l) h =
      let q = and_parts _ _ h in
      (⊎_elim (λ e. absurd (both_ways _ n (level_front p s c x z f q.0 e))) (λ e. e) (split (at_level p s c z)), none_level p s c x f n l q.1)
