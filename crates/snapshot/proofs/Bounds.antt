-- What holds of all that a snapshot lists: the offsets of its marks ascend, each order is of the pair listed last before it,
-- and there are as many pairs as their count says.
use Rattle.std.proofs.Common.{◌≡◌, ℕ, zero, suc, ◌+◌, ◌-◌, ◌<◌, ◌≤◌, Bool, true, false, cond, eqb, List, [], ◌∷◌, ◌++◌, length, Some, None, Ok, Err, Option, sym, refl, ap, ◌∙◌, subst, append_assoc, arith, eqb-true}
use Rattle.std.specs.List.{AllByRecursion}
use Rattle.fields.specs.Values.{Pair, Price}
use Rattle.fields.specs.declared.integers.Integer.{Integer}
use Rattle.book.specs.declared.order.Order.{Order}
use Rattle.book.specs.declared.order.Side.{Side}
use Rattle.book.specs.declared.order.Side.TheVariants.{Bid, Offer}
use Rattle.readers.specs.Values.{pair_of, label_of, price_of, amount_of, integer_of}
use Rattle.venue.specs.Form as venue
use Rattle.message.specs.Reading.{value_at}
use Rattle.message.specs.declared.fault.MessageFault.{MessageFault}
use Rattle.message.specs.declared.fault.MessageFault.TheVariants.{Miscounted}
use Rattle.snapshot.specs.declared.mark.Mark.{Mark}
use Rattle.snapshot.specs.declared.mark.Mark.TheVariants.{Lists, Puts}
use Rattle.snapshot.specs.Scanning.{Scan, ◌▸◌, ◌⨟◌, field_at, tail_then, times}
use Rattle.snapshot.specs.Snapshot.{order_at, level_at, side_at, pair_at, pairs_from, snapshot_of}
use Rattle.snapshot.specs.Repeats.{place_of}
use Rattle.snapshot.specs.Listing.{pairs_listed}
use Rattle.snapshot.proofs.Walks.{no, field_inside, tail_inside}

-- of where a scan begins, what it lists and where it ends
abbrev pub Spanned : Type 0 → Type 1
Spanned A = ℕ → List A → ℕ → Type 0

module _ {A : Type 0} where
  -- where a scan from p ends, P holds
  abbrev pub Each : Spanned A → ℕ → Scan (List A) → Type 0
  Each P p x = (ms : List A) (e : ℕ) → x ≡ Ok (ms, e) → P p ms e

  pub each_ok : (P : Spanned A) (p : ℕ) (xs : List A) (q : ℕ) → P p xs q → Each P p (Ok (xs, q))
  each_ok P p xs q h ms e k =
      let same : ◌≡◌ {A = List A × ℕ} (xs, q) (ms, e) = cc in
      subst (λ t. P p t.0 t.1) same h

  pub each_err : (P : Spanned A) (p : ℕ) (y : MessageFault) → Each P p (Err y)
  each_err P p y ms e k = no (sym k)

  pub each_field : (P : Spanned A) {B : Type 0} (p : ℕ) (x : Scan B) (f : B → ℕ → Scan (List A)) → ((v : B) (q : ℕ) → x ≡ Ok (v, q) → Each P p (f v q)) → Each P p (x ▸ f)
  each_field P p (Err y) f h = each_err P p y
  each_field P p (Ok v) f h = h v.0 v.1 refl

  each_unless : (P : Spanned A) (p : ℕ) (b : Bool) (y : MessageFault) (x : Scan (List A)) → Each P p x → Each P p (cond b (Err y) x)
  each_unless P p true y x h = each_err P p y
  each_unless P p false y x h = h

  each_by : (P : Spanned A) (p : ℕ) (b : Bool) (x y : Scan (List A)) → Each P p x → Each P p y → Each P p (cond b x y)
  each_by P p true x y h k = h
  each_by P p false x y h k = k

  abbrev pub Joins : Spanned A → Spanned A → Spanned A → Type 0
  Joins P Q R = (p q e : ℕ) (xs ys : List A) → P p xs q → Q q ys e → R p (xs ++ ys) e

  pub each_then : (P Q R : Spanned A) → Joins P Q R → (p : ℕ) (x : Scan (List A)) (f : ℕ → Scan (List A)) → Each P p x → ((q : ℕ) → Each Q q (f q)) → Each R p (x ⨟ f)
  each_then P Q R join p (Err y) f h k = each_err R p y
  each_then P Q R join p (Ok v) f h k = by (f v.1) (k v.1) (h v.0 v.1 refl)
    where
      by : (y : Scan (List A)) → Each Q v.1 y → P p v.0 v.1 → Each R p (y ▸ λ ys e. Ok (v.0 ++ ys, e))
      by (Err y) k g = each_err R p y
      by (Ok w) k g = each_ok R p (v.0 ++ w.0) w.1 (join p v.1 w.1 v.0 w.0 g (k w.0 w.1 refl))

  -- P of one, and N of how many
  pub each_times : (P : Spanned A) (N : ℕ → Spanned A) → ((p : ℕ) → N zero p [] p) → ((n : ℕ) → Joins P (N n) (N (suc n))) → (f : ℕ → Scan (List A)) → ((q : ℕ) → Each P q (f q)) → (n p : ℕ) → Each (N n) p (times f n p)
  unfolding times
  each_times P N nil join f k zero p = each_ok (N zero) p [] p (nil p)
  each_times P N nil join f k (suc n) p = each_then P (N n) (N (suc n)) (join n) p (f p) (times f n) (k p) (λ q. each_times P N nil join f k n q)

-- The parts of a snapshot.
pub record Parts {T : Type 0} (F : venue.Form T) (m : List ℕ) (ms : List (Mark T)) (e : ℕ) : Type 0 where
  pub size : Integer 6
  pub sized : field_at m 6 (integer_of 6) 1 ≡ Ok (size, 7)
  pub agrees : size.value ≡ length m - 7
  pub count : Integer 4
  pub counted : field_at m 4 (integer_of 4) 7 ≡ Ok (count, 11)
  pub listed : times (pair_at F m) count.value 11 ≡ Ok (ms, e)
  pub whole : e ≡ length m

record Bound {A B : Type 0} (x : Scan A) (f : A → ℕ → Scan B) (v : B) (e : ℕ) : Type 0 where
  value : A
  next : ℕ
  read : x ≡ Ok (value, next)
  then : f value next ≡ Ok (v, e)

bound : {A B : Type 0} (x : Scan A) (f : A → ℕ → Scan B) (v : B) (e : ℕ) → (x ▸ f) ≡ Ok (v, e) → Bound x f v e
bound (Err y) f v e h = no (sym h)
bound (Ok x) f v e h = record { value = x.0; next = x.1; read = refl; then = h }

when : {B : Type 0} (b : Bool) (x : Scan B) (y : MessageFault) (v : B) (e : ℕ) → ◌≡◌ {A = Scan B} (cond b x (Err y)) (Ok (v, e)) → (b ≡ true) × (x ≡ Ok (v, e))
when true x y v e h = (refl, h)
when false x y v e h = no (sym h)

module _ {T : Type 0} (F : venue.Form T) (m : List ℕ) (ms : List (Mark T)) (e : ℕ) where
  abbrev Closing : List (Mark T) → ℕ → Scan (List (Mark T))
  Closing xs n = cond (eqb n (length m)) (Ok (xs, n)) (Err (Miscounted n))

  module _ (size : Integer 6) (p : ℕ) (sized : field_at m 6 (integer_of 6) 1 ≡ Ok (size, p)) (right : eqb size.value (length m - p) ≡ true) where
    by_count : (xs : List (Mark T)) (n : ℕ) → (eqb n (length m) ≡ true) × (◌≡◌ {A = Scan (List (Mark T))} (Ok (xs, n)) (Ok (ms, e)))
        → Bound (field_at m 4 (integer_of 4) p) (λ k q. times (pair_at F m) k.value q) xs n → Parts F m ms e
    by_count xs n w x =
        let i = field_inside m 6 (integer_of 6) 1 sized in
        let seven : p ≡ 7 = i.after in
        let j = field_inside m 4 (integer_of 4) p x.read in
        let eleven : x.next ≡ 11 = j.after ∙ ap (λ n. n + 4) seven in
        let last = w.1 in
        let same : ◌≡◌ {A = List (Mark T) × ℕ} (xs, n) (ms, e) = cc in
        record {
          size = size;
          sized = subst (λ q. field_at m 6 (integer_of 6) 1 ≡ Ok (size, q)) seven sized;
          agrees = eqb-true size.value (length m - p) right ∙ ap (λ q. length m - q) seven;
          count = x.value;
          counted = subst (λ q. field_at m 4 (integer_of 4) 7 ≡ Ok (x.value, q)) eleven (subst (λ q. field_at m 4 (integer_of 4) q ≡ Ok (x.value, x.next)) seven x.read);
          listed = subst (λ q. times (pair_at F m) x.value.value q ≡ Ok (ms, e)) eleven (x.then ∙ ap Ok same);
          whole = sym (ap (λ t. t.1) same) ∙ eqb-true n (length m) w.0;
        }

    by_pairs : Bound (pairs_from F m p) Closing ms e → Parts F m ms e
    unfolding pairs_from
    by_pairs x = by_count x.value x.next (when (eqb x.next (length m)) _ _ ms e x.then) (bound (field_at m 4 (integer_of 4) p) _ x.value x.next x.read)

    by_right : (pairs_from F m p ▸ Closing) ≡ Ok (ms, e) → Parts F m ms e
    by_right h = by_pairs (bound (pairs_from F m p) Closing ms e h)

  by_size : Bound (field_at m 6 (integer_of 6) 1) (λ k p. cond (eqb k.value (length m - p)) (pairs_from F m p ▸ Closing) (Err (Miscounted 1))) ms e → Parts F m ms e
  by_size x =
      let w = when (eqb x.value.value (length m - x.next)) (pairs_from F m x.next ▸ Closing) (Miscounted 1) ms e x.then in
      by_right x.value x.next x.read w.0 w.1

  pub snapshot_parts : snapshot_of F m ≡ Ok (ms, e) → Parts F m ms e
  unfolding snapshot_of
  snapshot_parts h = by_size (bound (field_at m 6 (integer_of 6) 1) _ ms e h)

-- The offsets of marks ascend.
module _ {T : Type 0} where
  -- from p on each mark stands behind the one before it, and before e
  abbrev pub Rising : ℕ → List (Mark T) → ℕ → Type 0
  Rising p [] e = p ≤ e
  Rising p (x ∷ xs) e = (p ≤ place_of x) × Rising (suc (place_of x)) xs e

  rising_from : (p q : ℕ) (xs : List (Mark T)) (e : ℕ) → p ≤ q → Rising q xs e → Rising p xs e
  rising_from p q [] e h k = omega arith
  rising_from p q (x ∷ xs) e h k = (let z = k.0 in omega arith, k.1)

  pub rising_join : Joins Rising Rising Rising
  rising_join p q e [] ys h k = rising_from p q ys e h k
  rising_join p q e (x ∷ xs) ys h k = (h.0, rising_join (suc (place_of x)) q e xs ys h.1 k)

  -- there are no more marks than bytes
  pub rising_few : (p : ℕ) (xs : List (Mark T)) (e : ℕ) → Rising p xs e → length xs + p ≤ e
  rising_few p [] e h = omega arith
  rising_few p (x ∷ xs) e h = let z = h.0 in let w = rising_few (suc (place_of x)) xs e h.1 in omega arith

  pub record Ascending (ms : List (Mark T)) : Type 0 where
    pub below : (front back : List (Mark T)) (x : Mark T) → ms ≡ front ++ (x ∷ back) → AllByRecursion (λ (y : Mark T). place_of y < place_of x) front

  rising_at : (p e : ℕ) (front back : List (Mark T)) (x : Mark T) → Rising p (front ++ (x ∷ back)) e → p ≤ place_of x
  rising_at p e [] back x h = h.0
  rising_at p e (y ∷ front) back x h = let z = h.0 in let w = rising_at (suc (place_of y)) e front back x h.1 in omega arith

  pub rising_below : (p e : ℕ) (front back : List (Mark T)) (x : Mark T) → Rising p (front ++ (x ∷ back)) e → AllByRecursion (λ (y : Mark T). place_of y < place_of x) front
  rising_below p e [] back x h = tt
  rising_below p e (y ∷ front) back x h =
      let w = rising_at (suc (place_of y)) e front back x h.1 in
      (omega arith, rising_below (suc (place_of y)) e front back x h.1)

  pub rising_ascends : (p : ℕ) (ms : List (Mark T)) (e : ℕ) → Rising p ms e → Ascending ms
  rising_ascends p ms e h = record { below = λ front back x z. rising_below p e front back x (subst (λ xs. Rising p xs e) z h) }

module _ {T : Type 0} (F : venue.Form T) (m : List ℕ) where
  abbrev Up : ℕ → Scan (List (Mark T)) → Type 0
  Up = Each Rising

  rising_later : (p q : ℕ) (x : Scan (List (Mark T))) → p ≤ q → Up q x → Up p x
  rising_later p q x h k ms e z = rising_from p q ms e h (k ms e z)

  rising_times : (f : ℕ → Scan (List (Mark T))) → ((q : ℕ) → Up q (f q)) → (n p : ℕ) → Up p (times f n p)
  rising_times = each_times Rising (λ _. Rising) (λ p. omega arith) (λ _. rising_join)

  field_later : {A : Type 0} (w : ℕ) (f : List ℕ → Option A) (p : ℕ) {v : A} {e : ℕ} → field_at m w f p ≡ Ok (v, e) → p ≤ e
  field_later w f p h = let i = field_inside m w f p h in omega arith

  rising_order : (c : Pair) (s : Side) (v : Price) (p : ℕ) → Up p (order_at F m c s v p)
  unfolding order_at
  rising_order c s v p = each_field Rising p (field_at m 16 amount_of p) _ (λ a q h. each_by Rising p F.order_tail_first _ _
      (each_field Rising p (tail_then F m q) _ (λ t r k. each_field Rising p (field_at m 15 (label_of 15) r) _ (λ i e l. each_ok Rising p _ e
      (let x = field_inside m 16 amount_of p h in let y = tail_inside F m q k in let z = field_inside m 15 (label_of 15) r l in (omega arith, omega arith)))))
      (each_field Rising p (field_at m 15 (label_of 15) q) _ (λ i r k. each_field Rising p (tail_then F m r) _ (λ t e l. each_ok Rising p _ e
      (let x = field_inside m 16 amount_of p h in let y = field_inside m 15 (label_of 15) q k in let z = tail_inside F m r l in (omega arith, omega arith))))))

  rising_level : (c : Pair) (s : Side) (p : ℕ) → Up p (level_at F m c s p)
  unfolding level_at
  rising_level c s p = each_field Rising p (field_at m 10 price_of p) _ (λ v q h. rising_later p q _ (field_later 10 price_of p h)
      (each_field Rising q (field_at m 4 (integer_of 4) q) _ (λ k r j. rising_later q r _ (field_later 4 (integer_of 4) q j)
      (each_unless Rising r (eqb k.value 0) (Miscounted q) _ (rising_times (order_at F m c s v) (rising_order c s v) k.value r)))))

  pub rising_side : (c : Pair) (s : Side) (p : ℕ) → Up p (side_at F m c s p)
  unfolding side_at
  rising_side c s p = each_field Rising p (field_at m 4 (integer_of 4) p) _ (λ k q h. rising_later p q _ (field_later 4 (integer_of 4) p h)
      (rising_times (level_at F m c s) (rising_level c s) k.value q))

  rising_pair : (p : ℕ) → Up p (pair_at F m p)
  unfolding pair_at
  rising_pair p = each_field Rising p (field_at m 7 pair_of p) _ (λ c q h. each_then Rising Rising Rising rising_join p (Ok (Lists p c ∷ [], q)) _
      (each_ok Rising p (Lists p c ∷ []) q (let x = field_inside m 7 pair_of p h in (omega arith, omega arith)))
      (λ u. each_then Rising Rising Rising rising_join u (side_at F m c Bid u) _ (rising_side c Bid u) (λ r. rising_side c Offer r)))

  -- the marks stand behind the head, in turn, and before the message's end
  pub marks_rise : (ms : List (Mark T)) (e : ℕ) → snapshot_of F m ≡ Ok (ms, e) → Rising 11 ms (length m)
  marks_rise ms e h =
      let x = snapshot_parts F m ms e h in
      subst (λ n. Rising 11 ms n) x.whole (rising_times (pair_at F m) rising_pair x.count.value 11 ms e x.listed)

  pub marks_ascend : (ms : List (Mark T)) (e : ℕ) → snapshot_of F m ≡ Ok (ms, e) → Ascending ms
  marks_ascend ms e h = rising_ascends 11 ms (length m) (marks_rise ms e h)

  pub few_marks : (ms : List (Mark T)) (e : ℕ) → snapshot_of F m ≡ Ok (ms, e) → length ms + 11 ≤ length m
  few_marks ms e h = rising_few 11 ms (length m) (marks_rise ms e h)

pub nowhere : {X : Type 0} {c : Pair} → ◌≡◌ {A = Option Pair} None (Some c) → X
nowhere h = let z : ◌≡◌ {A = ℕ} 0 1 = cc in absurd (omega arith)

-- Each order is of the pair listed last before it.
module _ {T : Type 0} where
  -- orders of c only
  abbrev pub Own : Pair → List (Mark T) → Type 0
  Own c [] = Unit {0}
  Own c (Lists p d ∷ ms) = ⊥
  Own c (Puts p o ∷ ms) = (o.pair ≡ c) × Own c ms

  -- c is the pair listed last before, if any
  abbrev pub Under : Option Pair → List (Mark T) → Type 0
  Under c [] = Unit {0}
  Under c (Lists p d ∷ ms) = Under (Some d) ms
  Under c (Puts p o ∷ ms) = (c ≡ Some o.pair) × Under c ms

  pub own_join : (c : Pair) (xs ys : List (Mark T)) → Own c xs → Own c ys → Own c (xs ++ ys)
  own_join c [] ys h k = k
  own_join c (Lists p d ∷ xs) ys h k = absurd h
  own_join c (Puts p o ∷ xs) ys h k = (h.0, own_join c xs ys h.1 k)

  pub own_under : (c : Pair) (xs : List (Mark T)) → Own c xs → Under (Some c) xs
  own_under c [] h = tt
  own_under c (Lists p d ∷ xs) h = absurd h
  own_under c (Puts p o ∷ xs) h = (ap Some (sym h.0), own_under c xs h.1)

  pub under_join : (c : Option Pair) (xs ys : List (Mark T)) → Under c xs → ((d : Option Pair) → Under d ys) → Under c (xs ++ ys)
  under_join c [] ys h k = k c
  under_join c (Lists p d ∷ xs) ys h k = under_join (Some d) xs ys h k
  under_join c (Puts p o ∷ xs) ys h k = (h.0, under_join c xs ys h.1 k)

  -- c is listed in front, and nothing but orders of c stands behind that
  pub record Headed (front : List (Mark T)) (c : Pair) : Type 0 where
    pub before : List (Mark T)
    pub place : ℕ
    pub between : List (Mark T)
    pub split : front ≡ before ++ (Lists place c ∷ between)
    pub own : Own c between

  headed_after : (xs front : List (Mark T)) (c : Pair) → Headed front c → Headed (xs ++ front) c
  headed_after xs front c h = record {
    before = xs ++ h.before;
    place = h.place;
    between = h.between;
    split = ap (λ ys. xs ++ ys) h.split ∙ sym (append_assoc xs h.before (Lists h.place c ∷ h.between));
    own = h.own;
  }

  -- seen stands between the listing of d and front
  headed_since : (d : Pair) (q : ℕ) (seen front back : List (Mark T)) (p : ℕ) (o : Order T) → Own d seen → Under (Some d) (front ++ (Puts p o ∷ back)) → Headed (Lists q d ∷ (seen ++ front)) o.pair
  headed_since d q seen [] back p o h k =
      let z = k.0 in
      let same : d ≡ o.pair = cc in
      subst (λ c. Headed (Lists q d ∷ (seen ++ [])) c) same (record { before = []; place = q; between = seen ++ []; split = refl; own = own_join d seen [] h tt })
  headed_since d q seen (Lists r c ∷ front) back p o h k = headed_after (Lists q d ∷ seen) (Lists r c ∷ front) o.pair (headed_since c r [] front back p o tt k)
  headed_since d q seen (Puts r x ∷ front) back p o h k =
      let z = k.0 in
      let same : x.pair ≡ d = cc in
      subst (λ ys. Headed (Lists q d ∷ ys) o.pair) (append_assoc seen (Puts r x ∷ []) front)
      (headed_since d q (seen ++ (Puts r x ∷ [])) front back p o (own_join d seen (Puts r x ∷ []) h (same, tt)) k.1)

  pub under_headed : (front back : List (Mark T)) (p : ℕ) (o : Order T) → Under None (front ++ (Puts p o ∷ back)) → Headed front o.pair
  under_headed [] back p o k = nowhere k.0
  under_headed (Lists q d ∷ front) back p o k = headed_since d q [] front back p o tt k
  under_headed (Puts q x ∷ front) back p o k = nowhere k.0

  -- ms begins with a pair and its orders, and goes on with rest
  pub record Block (ms rest : List (Mark T)) : Type 0 where
    pub place : ℕ
    pub pair : Pair
    pub orders : List (Mark T)
    pub split : ms ≡ Lists place pair ∷ (orders ++ rest)
    pub own : Own pair orders

  -- n such blocks
  abbrev pub Blocks : ℕ → List (Mark T) → Type 0
  Blocks zero ms = ms ≡ []
  Blocks (suc n) ms = (rest : List (Mark T)) × Block ms rest × Blocks n rest

  pub blocks_under : (n : ℕ) (ms : List (Mark T)) → Blocks n ms → (c : Option Pair) → Under c ms
  blocks_under zero ms h c = subst (λ xs. Under c xs) (sym h) tt
  blocks_under (suc n) ms h c =
      let b = h.1 in
      subst (λ xs. Under c xs) (sym b.split) (under_join (Some b.pair) b.orders h.0 (own_under b.pair b.orders b.own) (blocks_under n h.0 h.2))

  own_lists : (c : Pair) (xs ys : List (Mark T)) → Own c xs → pairs_listed (xs ++ ys) ≡ pairs_listed ys
  own_lists c [] ys h = refl
  own_lists c (Lists p d ∷ xs) ys h = absurd h
  own_lists c (Puts p o ∷ xs) ys h = own_lists c xs ys h.1

  pub blocks_count : (n : ℕ) (ms : List (Mark T)) → Blocks n ms → length (pairs_listed ms) ≡ n
  blocks_count zero ms h = ap (λ xs. length (pairs_listed xs)) h
  blocks_count (suc n) ms h =
      let b = h.1 in
      ap (λ xs. length (pairs_listed xs)) b.split ∙ ap (λ cs. suc (length cs)) (own_lists b.pair b.orders h.0 b.own) ∙ ap suc (blocks_count n h.0 h.2)

module _ {T : Type 0} (F : venue.Form T) (m : List ℕ) where
  -- a block before any rest
  abbrev Whole : Spanned (Mark T)
  Whole p ms e = (rest : List (Mark T)) → Block (ms ++ rest) rest

  module _ (c : Pair) where
    abbrev pub Its : Spanned (Mark T)
    Its p ms e = Own c ms

    pub its_join : Joins Its Its Its
    its_join p q e xs ys h k = own_join c xs ys h k

    its_order : (s : Side) (v : Price) (p : ℕ) → Each Its p (order_at F m c s v p)
    unfolding order_at
    its_order s v p = each_field Its p (field_at m 16 amount_of p) _ (λ a q h. each_by Its p F.order_tail_first _ _
        (each_field Its p (tail_then F m q) _ (λ t r k. each_field Its p (field_at m 15 (label_of 15) r) _ (λ i e l. each_ok Its p _ e (refl, tt))))
        (each_field Its p (field_at m 15 (label_of 15) q) _ (λ i r k. each_field Its p (tail_then F m r) _ (λ t e l. each_ok Its p _ e (refl, tt)))))

    its_times : (f : ℕ → Scan (List (Mark T))) → ((q : ℕ) → Each Its q (f q)) → (n p : ℕ) → Each Its p (times f n p)
    its_times = each_times Its (λ _. Its) (λ p. tt) (λ _. its_join)

    its_level : (s : Side) (p : ℕ) → Each Its p (level_at F m c s p)
    unfolding level_at
    its_level s p = each_field Its p (field_at m 10 price_of p) _ (λ v q h. each_field Its p (field_at m 4 (integer_of 4) q) _ (λ k r j.
        each_unless Its p (eqb k.value 0) (Miscounted q) _ (its_times (order_at F m c s v) (its_order s v) k.value r)))

    pub its_side : (s : Side) (p : ℕ) → Each Its p (side_at F m c s p)
    unfolding side_at
    its_side s p = each_field Its p (field_at m 4 (integer_of 4) p) _ (λ k q h. its_times (level_at F m c s) (its_level s) k.value q)

    abbrev Head : Spanned (Mark T)
    Head p ms e = ms ≡ Lists p c ∷ []

    whole_join : Joins Head Its Whole
    whole_join p q e xs ys h k rest = record { place = p; pair = c; orders = ys; split = ap (λ zs. (zs ++ ys) ++ rest) h; own = k }

  whole_pair : (p : ℕ) → Each Whole p (pair_at F m p)
  unfolding pair_at
  whole_pair p = each_field Whole p (field_at m 7 pair_of p) _ (λ c q h. each_then (Head c) (Its c) Whole (whole_join c) p (Ok (Lists p c ∷ [], q)) _
      (each_ok (Head c) p (Lists p c ∷ []) q refl)
      (λ u. each_then (Its c) (Its c) (Its c) (its_join c) u (side_at F m c Bid u) _ (its_side c Bid u) (λ r. its_side c Offer r)))

  -- a snapshot is as many blocks as its count of pairs says
  pub marks_in_blocks : (ms : List (Mark T)) (e : ℕ) (x : Parts F m ms e) → Blocks x.count.value ms
  marks_in_blocks ms e x = each_times Whole (λ n p ms e. Blocks n ms) (λ p. refl) (λ n p q e xs ys h k. (ys, h ys, k)) (pair_at F m) whole_pair x.count.value 11 ms e x.listed

  -- an order is of the pair that is listed last before it
  pub orders_headed : (ms : List (Mark T)) (e : ℕ) → snapshot_of F m ≡ Ok (ms, e) → (front back : List (Mark T)) (p : ℕ) (o : Order T) → ms ≡ front ++ (Puts p o ∷ back) → Headed front o.pair
  orders_headed ms e h front back p o z =
      let x = snapshot_parts F m ms e h in
      under_headed front back p o (subst (λ xs. Under None xs) z (blocks_under x.count.value ms (marks_in_blocks ms e x) None))

  -- as many pairs are listed as the count says
  pub pairs_counted : (ms : List (Mark T)) (e : ℕ) (x : Parts F m ms e) → length (pairs_listed ms) ≡ x.count.value
  pairs_counted ms e x = blocks_count x.count.value ms (marks_in_blocks ms e x)

-- At its offset the message has the pair or the id of a mark.
module _ {T : Type 0} (m : List ℕ) where
  abbrev pub Stands : Mark T → Type 0
  Stands (Lists p c) = value_at m 7 pair_of p ≡ Ok c
  Stands (Puts p o) = value_at m 15 (label_of 15) p ≡ Ok o.id

  abbrev Standing : Spanned (Mark T)
  Standing p ms e = AllByRecursion Stands ms

  standing_join : Joins Standing Standing Standing
  standing_join p q e [] ys h k = k
  standing_join p q e (x ∷ xs) ys h k = (h.0, standing_join p q e xs ys h.1 k)

module _ {T : Type 0} (F : venue.Form T) (m : List ℕ) where
  abbrev On : Spanned (Mark T)
  On = Standing m

  on_times : (f : ℕ → Scan (List (Mark T))) → ((q : ℕ) → Each On q (f q)) → (n p : ℕ) → Each On p (times f n p)
  on_times = each_times On (λ _. On) (λ p. tt) (λ _. standing_join m)

  on_order : (c : Pair) (s : Side) (v : Price) (p : ℕ) → Each On p (order_at F m c s v p)
  unfolding order_at
  on_order c s v p = each_field On p (field_at m 16 amount_of p) _ (λ a q h. each_by On p F.order_tail_first _ _
      (each_field On p (tail_then F m q) _ (λ t r k. each_field On p (field_at m 15 (label_of 15) r) _ (λ i e l. each_ok On p _ e ((field_inside m 15 (label_of 15) r l).value, tt))))
      (each_field On p (field_at m 15 (label_of 15) q) _ (λ i r k. each_field On p (tail_then F m r) _ (λ t e l. each_ok On p _ e ((field_inside m 15 (label_of 15) q k).value, tt)))))

  on_level : (c : Pair) (s : Side) (p : ℕ) → Each On p (level_at F m c s p)
  unfolding level_at
  on_level c s p = each_field On p (field_at m 10 price_of p) _ (λ v q h. each_field On p (field_at m 4 (integer_of 4) q) _ (λ k r j.
      each_unless On p (eqb k.value 0) (Miscounted q) _ (on_times (order_at F m c s v) (on_order c s v) k.value r)))

  on_side : (c : Pair) (s : Side) (p : ℕ) → Each On p (side_at F m c s p)
  unfolding side_at
  on_side c s p = each_field On p (field_at m 4 (integer_of 4) p) _ (λ k q h. on_times (level_at F m c s) (on_level c s) k.value q)

  on_pair : (p : ℕ) → Each On p (pair_at F m p)
  unfolding pair_at
  on_pair p = each_field On p (field_at m 7 pair_of p) _ (λ c q h. each_then On On On (standing_join m) p (Ok (Lists p c ∷ [], q)) _
      (each_ok On p (Lists p c ∷ []) q ((field_inside m 7 pair_of p h).value, tt))
      (λ u. each_then On On On (standing_join m) u (side_at F m c Bid u) _ (on_side c Bid u) (λ r. on_side c Offer r)))

  pub marks_stand : (ms : List (Mark T)) (e : ℕ) → snapshot_of F m ≡ Ok (ms, e) → AllByRecursion (Stands m) ms
  marks_stand ms e h = let x = snapshot_parts F m ms e h in on_times (pair_at F m) on_pair x.count.value 11 ms e x.listed
