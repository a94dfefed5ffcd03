-- What the rows' tests and edits say of the ladder that they stand for. Rows are spoken of by rank alone, so that this
-- serves any book that keeps its rows in the ladder's order.
use Rattle.std.specs.Prelude.{◌≡◌, ℕ, zero, suc, ◌<◌, ◌≤◌, Bool, true, false, cond, not, ◌&&◌, ◌||◌, List, [], ◌∷◌, length, set, MatchOption, is_some, Some, None, filter, Option, slice_index_or, slice_set}
use Rattle.std.proofs.Math.Path.{refl, sym, ap, ap₂, subst}
use Rattle.std.proofs.Common.{◌∙◌, ⊎_elim, arith}
use denote.Struct.Props.{props}
use Rattle.std.specs.List.{AllWithin, HoldsAt, insert, remove, AllByRecursion, list_all}
use Rattle.std.specs.Bool.{then_some}
use Rattle.std.proofs.lemmas.List.{get_or_default}
use Rattle.std.specs.List.Sorted.{IsPartitionedBy, IsPartitionPoint}
use Rattle.std.proofs.lemmas.Bool.{and_parts, and_from, both_ways, not-true, not-false}
use Rattle.fields.specs.Values.{Pair, Price, Amount}
use Rattle.fields.proofs.Sames.{pair_same, label_same, price_same, amount_same}
use Rattle.book.specs.Ladder.{OrderId, ahead, named, at_level, in_order, apart, stands, placed, without, at_rank, amended, reset, cleared}
use Rattle.book.specs.Calls.{Finds}
use Rattle.book.specs.Rows.{Formed, formed, all_formed, form_of, whole_order, orders, order_row, changed_row, OfLadder, first_formed, rest_formed, Remakes}
use Rattle.book.specs.RowTests.{row_of_pair, row_named, row_ahead, row_at_level, row_from, First, AheadOf}
use Rattle.book.specs.declared.order.Side.{Side}
use Rattle.book.specs.declared.order.Order.{Order}
use Rattle.book.specs.declared.row.Row.{Row}
use Rattle.book.specs.Orderly.{split, ahead_trans, level_order, level_ahead}
use Rattle.book.specs.Ladders.{placed_in_order, placed_apart, without_in_order, without_apart, without_none, amended_in_order, amended_apart, amended_none, stands_none_named, none_level, at_rank_past, finds_stands}
use Rattle.book.specs.Lookups.{alone, cleared_in_order, cleared_apart}

pub same_order : {T : Type 0} (a b : Order T) → a.pair ≡ b.pair → a.side ≡ b.side → a.id ≡ b.id → a.price ≡ b.price → a.amount ≡ b.amount → a.terms ≡ b.terms → a ≡ b
same_order a b p s d c m t = λ i. record { pair = p i; side = s i; id = d i; price = c i; amount = m i; terms = t i }

truth_prop : (x : Bool) → IsProp (x ≡ true)
truth_prop x = hlevel props

module _ {R : Type 0} where
  -- a row made of an order is formed
  row_formed : {T : Type 0} (row : T → R) (o : Order T) → formed (order_row row o) ≡ true
  row_formed row o = and_from _ _ o.pair.ok (and_from _ _ o.id.ok (and_from _ _ o.price.ok o.amount.ok))

  -- and gives the order back
  order_back : {T : Type 0} (row : T → R) (given : R → T) → ((t : T) → given (row t) ≡ t) → (o : Order T) (f : Formed (order_row row o)) → whole_order given (order_row row o) f ≡ o
  order_back row given back o f =
      same_order _ o (pair_same _ o.pair refl) refl (label_same 15 _ o.id refl) (price_same _ o.price refl) (amount_same _ o.amount refl) (back o.terms)

  same_orders : {T : Type 0} (given : R → T) (rs : List (Row R)) (f h : all_formed rs ≡ true) → orders given rs f ≡ orders given rs h
  same_orders given rs f h = ap (orders given rs) (truth_prop (all_formed rs) f h)

  same_first : {T : Type 0} (given : R → T) (r : Row R) (f h : formed r ≡ true) → whole_order given r (form_of r f) ≡ whole_order given r (form_of r h)
  same_first given r f h = ap (λ e. whole_order given r (form_of r e)) (truth_prop (formed r) f h)

  pub orders_length : {T : Type 0} (given : R → T) (rs : List (Row R)) (f : all_formed rs ≡ true) → length (orders given rs f) ≡ length rs
  orders_length given [] f = refl
  orders_length given (r ∷ rs) f = ap suc (orders_length given rs (rest_formed r rs f))

  pub orders_fit : {T : Type 0} (given : R → T) (rs : List (Row R)) (f : all_formed rs ≡ true) (n slots : ℕ) → n ≡ length rs → n ≤ slots → length (orders given rs f) ≤ slots
  orders_fit given rs f n slots e h = omega (arith, orders_length given rs f)

  -- the order and the ids do not look at the terms
  plain_ahead : {T : Type 0} (given : R → T) (r : Row R) (F : Formed r) (qs : List (Row R)) (h : all_formed qs ≡ true) → list_all (λ y. ahead (whole_order given r F) y) (orders given qs h) ≡ list_all (λ y. ahead (whole_order (λ t. t) r F) y) (orders (λ t. t) qs h)
  unfolding ahead
  plain_ahead given r F [] h = refl
  plain_ahead given r F (q ∷ qs) h = ap₂ ◌&&◌ refl (plain_ahead given r F qs (rest_formed q qs h))

  pub plain_in_order : {T : Type 0} (given : R → T) (rs : List (Row R)) (f : all_formed rs ≡ true) → in_order (orders given rs f) ≡ in_order (orders (λ t. t) rs f)
  plain_in_order given [] f = refl
  plain_in_order given (r ∷ rs) f = ap₂ ◌&&◌ (plain_ahead given r _ rs (rest_formed r rs f)) (plain_in_order given rs (rest_formed r rs f))

  plain_stands : {T : Type 0} (given : R → T) (p : Pair) (i : OrderId) (qs : List (Row R)) (h : all_formed qs ≡ true) → stands p i (orders given qs h) ≡ stands p i (orders (λ t. t) qs h)
  unfolding named
  plain_stands given p i [] h = refl
  plain_stands given p i (q ∷ qs) h = ap₂ ◌||◌ refl (plain_stands given p i qs (rest_formed q qs h))

  pub plain_apart : {T : Type 0} (given : R → T) (rs : List (Row R)) (f : all_formed rs ≡ true) → apart (orders given rs f) ≡ apart (orders (λ t. t) rs f)
  plain_apart given [] f = refl
  plain_apart given (r ∷ rs) f = ap₂ ◌&&◌ (ap not (plain_stands given _ _ rs (rest_formed r rs f))) (plain_apart given rs (rest_formed r rs f))

  more_every : (P : Row R → Type 0) (r : Row R) (rs : List (Row R)) (k : ℕ) → P r → AllWithin P rs 0 k → (j : ℕ) (d : Row R) → 0 ≤ j → j < suc k → P (slice_index_or (r ∷ rs) j d)
  more_every P r rs k h t zero d a b = h
  more_every P r rs k h t (suc j) d a b = t j d (omega arith) (omega arith)

  tail_every : (P : Row R → Type 0) (r : Row R) (rs : List (Row R)) (k : ℕ) → AllWithin P (r ∷ rs) 0 (suc k) → AllWithin P rs 0 k
  tail_every P r rs k h = λ j d a b. h (suc j) d (omega arith) (omega arith)

  module _ {T : Type 0} (given : R → T) where
    -- the rows are those of the orders l
    record Shows (rs : List (Row R)) (l : List (Order T)) : Type 0 where
      pub formed : all_formed rs ≡ true
      pub is : orders given rs formed ≡ l

    shows_is : (rs : List (Row R)) (l : List (Order T)) → Shows rs l → (f : all_formed rs ≡ true) → orders given rs f ≡ l
    shows_is rs l s f = same_orders given rs f s.formed ∙ s.is

    -- and l is a ladder: what a book's rows keep, and its ladder
    pub record Holds (rs : List (Row R)) (l : List (Order T)) : Type 0 where
      pub ladder : OfLadder rs
      pub is : (f : all_formed rs ≡ true) → orders given rs f ≡ l

    holds : (rs qs : List (Row R)) (l : List (Order T)) → qs ≡ rs → Shows rs l → in_order l ≡ true → apart l ≡ true → Holds qs l
    holds rs qs l e s o a =
        let own : OfLadder rs = record {
          formed = s.formed;
          sorted = sym (plain_in_order given rs s.formed) ∙ ap in_order s.is ∙ o;
          distinct = sym (plain_apart given rs s.formed) ∙ ap apart s.is ∙ a;
        } in
        subst (λ z. Holds z l) (sym e) (record { ladder = own; is = shows_is rs l s })

    cons_shows : (r : Row R) (e : formed r ≡ true) (rs : List (Row R)) (l : List (Order T)) → Shows rs l → Shows (r ∷ rs) (whole_order given r (form_of r e) ∷ l)
    cons_shows r e rs l s =
        let f : all_formed (r ∷ rs) ≡ true = and_from _ _ e s.formed in
        record { formed = f; is = ap₂ ◌∷◌ (same_first given r (first_formed r rs f) e) (shows_is rs l s (rest_formed r rs f)) }

    -- a test of the orders that is a test of their rows
    module _ (t : Order T → Bool) (q : Row R → Bool) (alike : (r : Row R) (F : Formed r) → t (whole_order given r F) ≡ q r) where
      all_orders : (rs : List (Row R)) (f : all_formed rs ≡ true) → AllWithin (λ x. q x ≡ false) rs 0 (length rs) → AllByRecursion (λ x. t x ≡ false) (orders given rs f)
      all_orders [] f h = tt
      all_orders (r ∷ rs) f h = (alike r _ ∙ h 0 r (omega arith) (omega arith), all_orders rs (rest_formed r rs f) (tail_every (λ x. q x ≡ false) r rs (length rs) h))

      at_orders : (rs : List (Row R)) (f : all_formed rs ≡ true) (k : ℕ) → k < length rs → HoldsAt (λ x. q x ≡ true) rs k → (d : Order T) → t (slice_index_or (orders given rs f) k d) ≡ true
      at_orders [] f k l h d = absurd (omega arith)
      at_orders (r ∷ rs) f zero l h d = alike r _ ∙ h r
      at_orders (r ∷ rs) f (suc k) l h d = at_orders rs (rest_formed r rs f) k (omega arith) (λ e. h e) d

      first_finds : (rs : List (Row R)) (f : all_formed rs ≡ true) (r : Option ℕ) → First q rs r → Finds t (orders given rs f) r
      first_finds rs f None h = all_orders rs f h
      first_finds rs f (Some k) h = (let l = orders_length given rs f in omega (arith, h.0), at_orders rs f k h.0 h.1)

    pub finds_named : (p : Pair) (i : OrderId) (rs : List (Row R)) (f : all_formed rs ≡ true) (r : Option ℕ) → First (row_named p i) rs r → Finds (named p i) (orders given rs f) r
    unfolding named
    finds_named p i = first_finds (named p i) (row_named p i) (λ r F. refl)

    pub finds_level : (p : Pair) (s : Side) (c : Price) (rs : List (Row R)) (f : all_formed rs ≡ true) (r : Option ℕ) → First (row_at_level p s c) rs r → Finds (at_level p s c) (orders given rs f) r
    unfolding at_level
    finds_level p s c = first_finds (at_level p s c) (row_at_level p s c) (λ r F. refl)

    pub found_stands : (p : Pair) (i : OrderId) (rs : List (Row R)) (f : all_formed rs ≡ true) (r : Option ℕ) → First (row_named p i) rs r → stands p i (orders given rs f) ≡ is_some r
    found_stands p i rs f r h = finds_stands p i (orders given rs f) r (finds_named p i rs f r h)

    -- the rank that is found by its order is the first
    first_found : (p : Pair) (i : OrderId) (rs : List (Row R)) (f : all_formed rs ≡ true) (k : ℕ) → apart (orders given rs f) ≡ true → Finds (named p i) (orders given rs f) (Some k) → First (row_named p i) rs (Some k)
    unfolding named
    first_found p i [] f k a h = absurd (omega (arith, h.0))
    first_found p i (r ∷ rs) f zero a h = (omega arith, λ d. h.1 (whole_order given r (form_of r (first_formed r rs f))), λ j d b c. absurd (omega arith))
    first_found p i (r ∷ rs) f (suc k) a h =
        let x = whole_order given r (form_of r (first_formed r rs f)) in
        let xs = orders given rs (rest_formed r rs f) in
        let q = and_parts (not (stands x.pair x.id xs)) (apart xs) a in
        let l : k < length xs = omega (arith, h.0) in
        let ih = first_found p i rs (rest_formed r rs f) k q.1 (l, λ d. h.1 d) in
        let away : named p i x ≡ false = ⊎_elim (λ n. absurd (both_ways _ (stands_none_named p i xs k (alone p i x xs n q.0) l x) (h.1 x))) (λ n. n) (split (named p i x)) in
        (omega (arith, ih.0), λ d. ih.1 d, more_every (λ y. row_named p i y ≡ false) r rs k away ih.2)

    ahead_at : (x : Order T) (rs : List (Row R)) (f : all_formed rs ≡ true) (j : ℕ) (d : Row R) → list_all (λ y. ahead x y) (orders given rs f) ≡ true → j < length rs → (F : Formed (slice_index_or rs j d)) × (ahead x (whole_order given (slice_index_or rs j d) F) ≡ true)
    ahead_at x [] f j d h l = absurd (omega arith)
    ahead_at x (r ∷ rs) f zero d h l =
        let F = form_of r (first_formed r rs f) in
        (F, (and_parts (ahead x (whole_order given r F)) (list_all (λ y. ahead x y) (orders given rs (rest_formed r rs f))) h).0)
    ahead_at x (r ∷ rs) f (suc j) d h l =
        let F = form_of r (first_formed r rs f) in
        ahead_at x rs (rest_formed r rs f) j d (and_parts (ahead x (whole_order given r F)) (list_all (λ y. ahead x y) (orders given rs (rest_formed r rs f))) h).1 (omega arith)

    ahead_front : (o : Order T) (rs : List (Row R)) (f : all_formed rs ≡ true) → in_order (orders given rs f) ≡ true → (i j : ℕ) (d : Row R) → i ≤ j → j < length rs → row_ahead (slice_index_or rs j d) o ≡ true → row_ahead (slice_index_or rs i d) o ≡ true
    unfolding ahead
    ahead_front o [] f s i j d a b h = absurd (omega arith)
    ahead_front o (r ∷ rs) f s zero zero d a b h = h
    ahead_front o (r ∷ rs) f s zero (suc j) d a b h =
        let x = whole_order given r (form_of r (first_formed r rs f)) in
        let xs = orders given rs (rest_formed r rs f) in
        let q = ahead_at x rs (rest_formed r rs f) j d (and_parts (list_all (λ y. ahead x y) xs) (in_order xs) s).0 (omega arith) in
        ahead_trans x (whole_order given (slice_index_or rs j d) q.0) o q.1 h
    ahead_front o (r ∷ rs) f s (suc i) zero d a b h = absurd (omega arith)
    ahead_front o (r ∷ rs) f s (suc i) (suc j) d a b h =
        let x = whole_order given r (form_of r (first_formed r rs f)) in
        let xs = orders given rs (rest_formed r rs f) in
        ahead_front o rs (rest_formed r rs f) (and_parts (list_all (λ y. ahead x y) xs) (in_order xs) s).1 i j d (omega arith) (omega arith) h

    -- those that stay in front of an order come first
    pub ahead_parted : (o : Order T) (rs : List (Row R)) (f : all_formed rs ≡ true) → in_order (orders given rs f) ≡ true → IsPartitionedBy (λ x. row_ahead x o) rs
    ahead_parted o rs f s = λ i j d a b h. ahead_front o rs f s i j d a b h

    level_behind : (p : Pair) (s : Side) (c : Price) (rs : List (Row R)) (f : all_formed rs ≡ true) → in_order (orders given rs f) ≡ true → (i j : ℕ) (d : Row R) → i ≤ j → j < length rs → not (row_from p s c (slice_index_or rs j d)) ≡ true → not (row_from p s c (slice_index_or rs i d)) ≡ true
    unfolding ahead
    level_behind p s c [] f o i j d a b h = absurd (omega arith)
    level_behind p s c (r ∷ rs) f o zero zero d a b h = h
    level_behind p s c (r ∷ rs) f o zero (suc j) d a b h =
        let x = whole_order given r (form_of r (first_formed r rs f)) in
        let xs = orders given rs (rest_formed r rs f) in
        let q = ahead_at x rs (rest_formed r rs f) j d (and_parts (list_all (λ y. ahead x y) xs) (in_order xs) o).0 (omega arith) in
        let z = whole_order given (slice_index_or rs j d) q.0 in
        let y = level_order p s c x in
        ⊎_elim (λ e. absurd (both_ways _ (not-true _ h) (ahead_trans y x z e q.1))) (λ e. ap not e) (split (row_from p s c r))
    level_behind p s c (r ∷ rs) f o (suc i) zero d a b h = absurd (omega arith)
    level_behind p s c (r ∷ rs) f o (suc i) (suc j) d a b h =
        let x = whole_order given r (form_of r (first_formed r rs f)) in
        let xs = orders given rs (rest_formed r rs f) in
        level_behind p s c rs (rest_formed r rs f) (and_parts (list_all (λ y. ahead x y) xs) (in_order xs) o).1 i j d (omega arith) (omega arith) h

    -- those in front of a pair, side and price come first
    pub level_parted : (p : Pair) (s : Side) (c : Price) (rs : List (Row R)) (f : all_formed rs ≡ true) → in_order (orders given rs f) ≡ true → IsPartitionedBy (λ x. not (row_from p s c x)) rs
    level_parted p s c rs f o = λ i j d a b h. level_behind p s c rs f o i j d a b h

    level_at : (p : Pair) (s : Side) (c : Price) (rs : List (Row R)) (f : all_formed rs ≡ true) (k : ℕ) (r : Row R) → k < length rs → row_at_level p s c (slice_index_or rs k r) ≡ true → (d : Order T) → at_level p s c (slice_index_or (orders given rs f) k d) ≡ true
    unfolding at_level
    level_at p s c [] f k r l h d = absurd (omega arith)
    level_at p s c (q ∷ rs) f zero r l h d = h
    level_at p s c (q ∷ rs) f (suc k) r l h d = level_at p s c rs (rest_formed q rs f) k r (omega arith) h d

    -- the row at the first rank that is not in front, if it is at the pair, side and price
    pub level_found : (p : Pair) (s : Side) (c : Price) (rs : List (Row R)) (f : all_formed rs ≡ true) (k : ℕ) (r : Row R) → k < length rs → r ≡ slice_index_or rs k r → row_at_level p s c r ≡ true → Finds (at_level p s c) (orders given rs f) (Some k)
    level_found p s c rs f k r l e h = (omega (arith, orders_length given rs f), level_at p s c rs f k r l (ap (row_at_level p s c) (sym e) ∙ h))

    -- and if it is not, none is
    pub level_nowhere : (p : Pair) (s : Side) (c : Price) (rs : List (Row R)) (f : all_formed rs ≡ true) → in_order (orders given rs f) ≡ true → (k : ℕ) → IsPartitionPoint (λ x. not (row_from p s c x) ≡ true) (λ x. not (row_from p s c x) ≡ false) rs k → (k < length rs → HoldsAt (λ x. row_at_level p s c x ≡ false) rs k) → AllByRecursion (λ x. at_level p s c x ≡ false) (orders given rs f)
    unfolding ahead at_level
    level_nowhere p s c [] f o k t n = tt
    level_nowhere p s c (r ∷ rs) f o zero t n =
        let x = whole_order given r (form_of r (first_formed r rs f)) in
        let xs = orders given rs (rest_formed r rs f) in
        let away : at_level p s c x ≡ false = n (omega arith) r in
        let front : ahead (level_order p s c x) x ≡ true = not-false _ (t.1 0 r (omega arith) (omega arith)) in
        (away, none_level p s c x front away xs (and_parts (list_all (λ y. ahead x y) xs) (in_order xs) o).0)
    level_nowhere p s c (r ∷ rs) f o (suc k) t n =
        let x = whole_order given r (form_of r (first_formed r rs f)) in
        let xs = orders given rs (rest_formed r rs f) in
        let front : ahead (level_order p s c x) x ≡ false = not-true _ (t.0 0 r (omega arith) (omega arith)) in
        let away : at_level p s c x ≡ false = ⊎_elim (λ e. absurd (both_ways _ front (level_ahead p s c x e))) (λ e. e) (split (at_level p s c x)) in
        let rest : IsPartitionPoint (λ z. not (row_from p s c z) ≡ true) (λ z. not (row_from p s c z) ≡ false) rs k =
        (tail_every (λ z. not (row_from p s c z) ≡ true) r rs k t.0, λ j d a b. t.1 (suc j) d (omega arith) (omega arith)) in
        (away, level_nowhere p s c rs (rest_formed r rs f) (and_parts (list_all (λ y. ahead x y) xs) (in_order xs) o).1 k rest (λ m d. n (omega arith) d))

    -- so the look at that row tells the rank of one there, or that none is
    pub level_told : (p : Pair) (s : Side) (c : Price) (rs : List (Row R)) (f : all_formed rs ≡ true) → in_order (orders given rs f) ≡ true → (k : ℕ) (r : Row R) (b : Bool) → k < length rs → r ≡ slice_index_or rs k r → b ≡ row_at_level p s c r → IsPartitionPoint (λ x. not (row_from p s c x) ≡ true) (λ x. not (row_from p s c x) ≡ false) rs k → Finds (at_level p s c) (orders given rs f) (then_some b k)
    level_told p s c rs f o k r true l e h t = level_found p s c rs f k r l e (sym h)
    level_told p s c rs f o k r false l e h t = level_nowhere p s c rs f o k t (λ m d. ap (row_at_level p s c) (get_or_default rs k d r l ∙ sym e) ∙ sym h)

    at_row : (rs : List (Row R)) (f : all_formed rs ≡ true) (k : ℕ) (d : Row R) → k < length rs → (F : Formed (slice_index_or rs k d)) × (at_rank (orders given rs f) k ≡ Some (whole_order given (slice_index_or rs k d) F))
    at_row [] f k d l = absurd (omega arith)
    at_row (r ∷ rs) f zero d l = (form_of r (first_formed r rs f), refl)
    at_row (r ∷ rs) f (suc k) d l = at_row rs (rest_formed r rs f) k d (omega arith)

    remakes_some : (r : Row R) (F : Formed r) (o : Option (Order T)) → Remakes given r o → o ≡ Some (whole_order given r F)
    remakes_some r F None h = absurd (h F)
    remakes_some r F (Some o) h = ap Some (h.1 ∙ same_order _ (whole_order given r F) (pair_same _ _ refl) refl (label_same 15 _ _ refl) (price_same _ _ refl) (amount_same _ _ refl) refl)

    -- the order of the row that was read is the one at the rank
    pub row_at_rank : (rs : List (Row R)) (f : all_formed rs ≡ true) (k : ℕ) (r : Row R) (o : Option (Order T)) → k < length rs → r ≡ slice_index_or rs k r → Remakes given r o → o ≡ at_rank (orders given rs f) k
    row_at_rank rs f k r o l e h =
        let a = at_row rs f k r l in
        remakes_some (slice_index_or rs k r) a.0 o (subst (λ (z : Row R). Remakes given z o) e h) ∙ sym a.1

    -- and there is none where the rank is past the rows
    pub read_at_rank : (rs : List (Row R)) (f : all_formed rs ≡ true) (k : ℕ) (q : Option (Row R)) (o : Option (Order T)) (P : Row R → Type 0) → ((r : Row R) → P r → Remakes given r o) → MatchOption q (length rs ≤ k) (λ r. (k < length rs) × (r ≡ slice_index_or rs k r)) → MatchOption q (o ≡ None) P → o ≡ at_rank (orders given rs f) k
    read_at_rank rs f k None o P h a b = b ∙ sym (at_rank_past (orders given rs f) k (omega (arith, orders_length given rs f)))
    read_at_rank rs f k (Some r) o P h a b = row_at_rank rs f k r o a.0 a.1 (h r b)

    -- a row taken out
    removed_shows : (p : Pair) (i : OrderId) (rs : List (Row R)) (k : ℕ) (f : all_formed rs ≡ true) → apart (orders given rs f) ≡ true → First (row_named p i) rs (Some k) → Shows (remove rs k) (without p i (orders given rs f))
    unfolding named
    removed_shows p i [] k f a h = absurd (omega (arith, h.0))
    removed_shows p i (r ∷ rs) zero f a h =
        let F = rest_formed r rs f in
        let x = whole_order given r (form_of r (first_formed r rs f)) in
        let xs = orders given rs F in
        let n = h.1 r in
        let none = alone p i x xs n (and_parts (not (stands x.pair x.id xs)) (apart xs) a).0 in
        record { formed = F; is = sym (ap (λ b. cond b (without p i xs) (x ∷ without p i xs)) n ∙ without_none p i xs none) }
    removed_shows p i (r ∷ rs) (suc k) f a h =
        let F = rest_formed r rs f in
        let e = first_formed r rs f in
        let x = whole_order given r (form_of r e) in
        let xs = orders given rs F in
        let ih = removed_shows p i rs k F (and_parts (not (stands x.pair x.id xs)) (apart xs) a).1 (omega (arith, h.0), (λ d. h.1 d), tail_every (λ x. row_named p i x ≡ false) r rs k h.2) in
        subst (λ b. Shows (r ∷ remove rs k) (cond b (without p i xs) (x ∷ without p i xs))) (sym (h.2 0 r (omega arith) (omega arith))) (cons_shows r e (remove rs k) (without p i xs) ih)

    -- the rows of a pair taken off
    cleared_shows : (p : Pair) (rs : List (Row R)) (f : all_formed rs ≡ true) → Shows (filter (λ x. not (row_of_pair p x)) rs) (cleared p (orders given rs f))
    cleared_shows p [] f = record { formed = refl; is = refl }
    cleared_shows p (r ∷ rs) f =
        let e = first_formed r rs f in
        let x = whole_order given r (form_of r e) in
        let ks = filter (λ x. not (row_of_pair p x)) rs in
        let xs = cleared p (orders given rs (rest_formed r rs f)) in
        let ih = cleared_shows p rs (rest_formed r rs f) in
        elim (row_of_pair p r) as (λ b. Shows (cond (not b) (r ∷ ks) ks) (cond b xs (x ∷ xs))) [ true ↦ ih | false ↦ cons_shows r e ks xs ih ]

    module _ (row : T → R) (back : (t : T) → given (row t) ≡ t) where
      own_shows : (o : Order T) (rs : List (Row R)) (l : List (Order T)) → Shows rs l → Shows (order_row row o ∷ rs) (o ∷ l)
      own_shows o rs l s =
          let e = row_formed row o in
          let c = cons_shows (order_row row o) e rs l s in
          record { formed = c.formed; is = c.is ∙ ap (λ x. x ∷ l) (order_back row given back o (form_of (order_row row o) e)) }

      -- a row put in behind those that are ahead of its order
      insert_shows : (o : Order T) (rs : List (Row R)) (k : ℕ) (f : all_formed rs ≡ true) → k ≤ length rs → AllWithin (λ x. row_ahead x o ≡ true) rs 0 k → (k < length rs → HoldsAt (λ x. row_ahead x o ≡ false) rs k) → Shows (insert rs k (order_row row o)) (placed o (orders given rs f))
      unfolding ahead
      insert_shows o [] zero f l e n = own_shows o [] [] (record { formed = refl; is = refl })
      insert_shows o [] (suc k) f l e n = absurd (omega arith)
      insert_shows o (r ∷ rs) zero f l e n =
          let x = whole_order given r (form_of r (first_formed r rs f)) in
          let xs = orders given rs (rest_formed r rs f) in
          subst (λ b. Shows (order_row row o ∷ (r ∷ rs)) (cond b (x ∷ placed o xs) (o ∷ (x ∷ xs)))) (sym (n (omega arith) r)) (own_shows o (r ∷ rs) (x ∷ xs) (record { formed = f; is = refl }))
      insert_shows o (r ∷ rs) (suc k) f l e n =
          let h = first_formed r rs f in
          let x = whole_order given r (form_of r h) in
          let xs = orders given rs (rest_formed r rs f) in
          let ih = insert_shows o rs k (rest_formed r rs f) (omega arith) (tail_every (λ x. row_ahead x o ≡ true) r rs k e) (λ m d. n (omega arith) d) in
          subst (λ b. Shows (r ∷ insert rs k (order_row row o)) (cond b (x ∷ placed o xs) (o ∷ (x ∷ xs)))) (sym (e 0 r (omega arith) (omega arith))) (cons_shows r h (insert rs k (order_row row o)) (placed o xs) ih)

      inserted_shows : (o : Order T) (rs : List (Row R)) (k : ℕ) (f : all_formed rs ≡ true) → AheadOf o rs k → Shows (insert rs k (order_row row o)) (placed o (orders given rs f))
      inserted_shows o rs k f at = insert_shows o rs k f at.0 at.1 at.2

      -- a row with another amount and other terms
      set_shows : (p : Pair) (i : OrderId) (a : Amount) (t : T) (rs : List (Row R)) (k : ℕ) (d : Row R) (f : all_formed rs ≡ true) → apart (orders given rs f) ≡ true → First (row_named p i) rs (Some k) → Shows (slice_set rs k (changed_row a.count (row t) (slice_index_or rs k d))) (amended p i a t (orders given rs f))
      unfolding named
      set_shows p i a t [] k d f u h = absurd (omega (arith, h.0))
      set_shows p i a t (r ∷ rs) zero d f u h =
          let e = first_formed r rs f in
          let x = whole_order given r (form_of r e) in
          let xs = orders given rs (rest_formed r rs f) in
          let n = h.1 r in
          let none = alone p i x xs n (and_parts (not (stands x.pair x.id xs)) (apart xs) u).0 in
          let q = changed_row a.count (row t) r in
          let g = form_of r e in
          let w : formed q ≡ true = and_from _ _ g.pair (and_from _ _ g.id (and_from _ _ g.price a.ok)) in
          let c = cons_shows q w rs xs (record { formed = rest_formed r rs f; is = refl }) in
          let same = same_order (whole_order given q (form_of q w)) (reset a t x) (pair_same _ x.pair refl) refl (label_same 15 _ x.id refl) (price_same _ x.price refl) (amount_same _ a refl) (back t) in
          record { formed = c.formed; is = c.is ∙ ap₂ ◌∷◌ (same ∙ ap (λ b. cond b (reset a t x) x) (sym n)) (sym (amended_none a t p i xs none)) }
      set_shows p i a t (r ∷ rs) (suc k) d f u h =
          let e = first_formed r rs f in
          let x = whole_order given r (form_of r e) in
          let xs = orders given rs (rest_formed r rs f) in
          let ih = set_shows p i a t rs k d (rest_formed r rs f) (and_parts (not (stands x.pair x.id xs)) (apart xs) u).1 (omega (arith, h.0), (λ z. h.1 z), tail_every (λ x. row_named p i x ≡ false) r rs k h.2) in
          let qs = set rs k (changed_row a.count (row t) (slice_index_or rs k d)) in
          subst (λ b. Shows (r ∷ qs) (cond b (reset a t x) x ∷ amended p i a t xs)) (sym (h.2 0 r (omega arith) (omega arith))) (cons_shows r e qs (amended p i a t xs) ih)

  -- what each change of a sound book's rows holds
  module _ {T : Type 0} (given : R → T) (rs : List (Row R)) (own : OfLadder rs) where
    pub ladder_sorted : in_order (orders given rs own.formed) ≡ true
    ladder_sorted = plain_in_order given rs own.formed ∙ own.sorted

    pub ladder_distinct : apart (orders given rs own.formed) ≡ true
    ladder_distinct = plain_apart given rs own.formed ∙ own.distinct

    pub removed_holds : (p : Pair) (i : OrderId) (k : ℕ) → Finds (named p i) (orders given rs own.formed) (Some k) → (qs : List (Row R)) → qs ≡ remove rs k → Holds given qs (without p i (orders given rs own.formed))
    removed_holds p i k h qs e =
        holds given (remove rs k) qs _ e (removed_shows given p i rs k own.formed ladder_distinct (first_found given p i rs own.formed k ladder_distinct h)) (without_in_order p i (orders given rs own.formed) ladder_sorted) (without_apart p i (orders given rs own.formed) ladder_distinct)

    pub cleared_holds : (p : Pair) (qs : List (Row R)) → qs ≡ filter (λ x. not (row_of_pair p x)) rs → Holds given qs (cleared p (orders given rs own.formed))
    cleared_holds p qs e =
        holds given (filter (λ x. not (row_of_pair p x)) rs) qs _ e (cleared_shows given p rs own.formed) (cleared_in_order p (orders given rs own.formed) ladder_sorted) (cleared_apart p (orders given rs own.formed) ladder_distinct)

    module _ (row : T → R) (back : (t : T) → given (row t) ≡ t) where
      pub inserted_holds : (o : Order T) (k : ℕ) → AheadOf o rs k → stands o.pair o.id (orders given rs own.formed) ≡ false → (qs : List (Row R)) → qs ≡ insert rs k (order_row row o) → Holds given qs (placed o (orders given rs own.formed))
      inserted_holds o k at none qs e =
          holds given (insert rs k (order_row row o)) qs _ e (inserted_shows given row back o rs k own.formed at) (placed_in_order o (orders given rs own.formed) ladder_sorted) (placed_apart o (orders given rs own.formed) ladder_distinct none)

      pub set_holds : (p : Pair) (i : OrderId) (a : Amount) (t : T) (k : ℕ) (d : Row R) → Finds (named p i) (orders given rs own.formed) (Some k) → (qs : List (Row R)) → qs ≡ slice_set rs k (changed_row a.count (row t) (slice_index_or rs k d)) → Holds given qs (amended p i a t (orders given rs own.formed))
      set_holds p i a t k d h qs e =
          holds given (slice_set rs k (changed_row a.count (row t) (slice_index_or rs k d))) qs _ e (set_shows given row back p i a t rs k d own.formed ladder_distinct (first_found given p i rs own.formed k ladder_distinct h)) (amended_in_order a t p i (orders given rs own.formed) ∙ ladder_sorted) (amended_apart a t p i (orders given rs own.formed) ∙ ladder_distinct)
