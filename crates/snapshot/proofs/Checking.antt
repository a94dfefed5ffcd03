-- A check of each mark of a snapshot, in turn, gives its first repeat and its counts.
use Rattle.std.proofs.Common.{◌≡◌, ℕ, zero, suc, ◌+◌, ◌<◌, ◌≤◌, Bool, true, false, cond, ◌&&◌, ◌||◌, List, [], ◌∷◌, ◌++◌, length, Some, None, Ok, Err, Option, sym, refl, ap, ◌∙◌, subst, ap₂, append_assoc, append-nil, arith, length-append}
use Rattle.std.specs.List.{AllByRecursion, list_any}
use Rattle.std.specs.Str.{bytes_eq}
use Rattle.std.proofs.lemmas.Bool.{lt-ltb, le-ltb, or_parts}
use Rattle.fields.specs.Values.{Pair}
use Rattle.book.specs.Ladder.{same_pair}
use Rattle.book.specs.declared.order.Order.{Order}
use Rattle.book.specs.declared.order.Side.TheVariants.{Bid, Offer}
use Rattle.book.specs.Orderly.{same_bytes}
use Rattle.readers.specs.Values.{pair_of}
use Rattle.venue.specs.Form as venue
use Rattle.message.specs.declared.fault.MessageFault.{MessageFault}
use Rattle.snapshot.specs.declared.mark.Mark.{Mark}
use Rattle.snapshot.specs.declared.mark.Mark.TheVariants.{Lists, Puts}
use Rattle.snapshot.specs.declared.checks.Seen.{Seen}
use Rattle.snapshot.specs.Scanning.{Scan, ◌▸◌, field_at}
use Rattle.snapshot.specs.Snapshot.{side_at, pair_at, snapshot_of}
use Rattle.snapshot.specs.Repeats.{place_of, alike, repeats, first_repeat}
use Rattle.snapshot.specs.Listing.{pairs_listed, orders_put}
use Rattle.snapshot.specs.Skims.{lists_pair, puts_id, met, listed, sides_at}
use Rattle.snapshot.specs.Walked.{Runs, Walked, ends}
use Rattle.snapshot.specs.Checked.{told, checked, onward, PairSeen, OrderSeen, MarkSeen}
use Rattle.snapshot.proofs.Bounds.{Spanned, Each, each_ok, each_err, each_field, each_then, each_times, Parts, snapshot_parts, nowhere, Rising, rising_side, rising_join, rising_below, marks_rise, few_marks, Own, own_join, Under, own_under, under_join, Its, its_join, its_side}
use Rattle.snapshot.proofs.Repeating.{none_distinct}
use Rattle.snapshot.proofs.Walks.{no, FieldScanned, field_inside}

same_pair_self : (a b : Pair) → a ≡ b → same_pair a b ≡ true
same_pair_self a b e = same_bytes a.bytes b.bytes (ap (λ (x : Pair). x.bytes) e)

module _ {T : Type 0} where
  -- none of those behind passes
  among_front : (t : Mark T → Bool) (xs ys : List (Mark T)) → list_any t ys ≡ false → list_any t (xs ++ ys) ≡ list_any t xs
  among_front t [] ys h = h
  among_front t (x ∷ xs) ys h = ap (λ b. t x || b) (among_front t xs ys h)

  -- none from p on passes
  among_behind : (t : Mark T → Bool) (p : ℕ) → ((x : Mark T) → p ≤ place_of x → t x ≡ false) → (q : ℕ) (xs : List (Mark T)) (e : ℕ) → p ≤ q → Rising q xs e → list_any t xs ≡ false
  among_behind t p f q [] e h k = refl
  among_behind t p f q (x ∷ xs) e h k =
      let z = k.0 in
      ap₂ ◌||◌ (f x (omega arith)) (among_behind t p f (suc (place_of x)) xs e (omega arith) k.1)

  pair_behind : (p : ℕ) (pair : List ℕ) (x : Mark T) → p ≤ place_of x → lists_pair p pair x ≡ false
  pair_behind p pair (Lists q c) h = ap (λ b. b && bytes_eq c.bytes pair) (le-ltb q p h)
  pair_behind p pair (Puts q o) h = refl

  id_behind : (p : ℕ) (id : List ℕ) (x : Mark T) → p ≤ place_of x → puts_id p id x ≡ false
  id_behind p id (Lists q c) h = refl
  id_behind p id (Puts q o) h = ap (λ b. b && bytes_eq o.id.bytes id) (le-ltb q p h)

  rising_behind : (r : ℕ) (front back : List (Mark T)) (x : Mark T) (e : ℕ) → Rising r (front ++ (x ∷ back)) e → Rising (place_of x) (x ∷ back) e
  rising_behind r [] back x e h = (omega arith, h.1)
  rising_behind r (y ∷ front) back x e h = rising_behind (suc (place_of y)) front back x e h.1

  -- a pair that is listed before p repeats one in front of p
  listed_front : (p : ℕ) (c : Pair) (xs : List (Mark T)) → AllByRecursion (λ (y : Mark T). place_of y < p) xs → listed p c.bytes xs ≡ repeats xs (Lists p c)
  unfolding alike
  listed_front p c [] h = refl
  listed_front p c (Lists q d ∷ xs) h = ap₂ ◌||◌ (ap (λ b. b && same_pair d c) (lt-ltb q p h.0)) (listed_front p c xs h.1)
  listed_front p c (Puts q o ∷ xs) h = listed_front p c xs h.1

  -- among orders of one pair, an id that is put before p repeats one in front of p
  met_front : (p : ℕ) (o : Order T) (xs : List (Mark T)) → Own o.pair xs → AllByRecursion (λ (y : Mark T). place_of y < p) xs → met p o.id.bytes xs ≡ repeats xs (Puts p o)
  unfolding alike
  met_front p o [] w h = refl
  met_front p o (Lists q d ∷ xs) w h = absurd w
  met_front p o (Puts q x ∷ xs) w h =
      let same = λ (b : Bool). b && bytes_eq x.id.bytes o.id.bytes in
      ap₂ ◌||◌ (ap same (lt-ltb q p h.0) ∙ sym (ap same (same_pair_self x.pair o.pair w.0))) (met_front p o xs w.1 h.1)

  -- no order of a pair that is not listed
  unlisted_unput : (q p : ℕ) (o : Order T) (d : Option Pair) (xs : List (Mark T)) → Under d xs → ((c : Pair) → d ≡ Some c → same_pair c o.pair ≡ false) → repeats xs (Lists q o.pair) ≡ false → repeats xs (Puts p o) ≡ false
  unfolding alike
  unlisted_unput q p o d [] u f h = refl
  unlisted_unput q p o d (Lists r c ∷ xs) u f h =
      let other = (or_parts (same_pair c o.pair) (repeats xs (Lists q o.pair)) h).0 in
      unlisted_unput q p o (Some c) xs u (λ b e. let z : c ≡ b = cc in ap (λ x. same_pair x o.pair) (sym z) ∙ other) (or_parts (same_pair c o.pair) (repeats xs (Lists q o.pair)) h).1
  unlisted_unput q p o d (Puts r x ∷ xs) u f h =
      ap₂ ◌||◌ (ap (λ b. b && bytes_eq x.id.bytes o.id.bytes) (f x.pair u.0)) (unlisted_unput q p o d xs u.1 f h)

  repeats_behind : (xs ys : List (Mark T)) (x : Mark T) → repeats xs x ≡ false → repeats (xs ++ ys) x ≡ repeats ys x
  repeats_behind [] ys x h = refl
  repeats_behind (y ∷ xs) ys x h = ap₂ ◌||◌ (or_parts (alike y x) (repeats xs x) h).0 (repeats_behind xs ys x (or_parts (alike y x) (repeats xs x) h).1)

  -- the first repeat, with one more mark
  first_more : (seen xs : List (Mark T)) (x : Mark T) → first_repeat seen (xs ++ (x ∷ [])) ≡ onward (first_repeat seen xs) (place_of x) (repeats (seen ++ xs) x)
  first_more seen [] x = ap (λ l. onward None (place_of x) (repeats l x)) (sym (append-nil seen))
  first_more seen (y ∷ xs) x = by (repeats seen y) (first_more (seen ++ (y ∷ [])) xs x)
    where
      by : (b : Bool) → first_repeat (seen ++ (y ∷ [])) (xs ++ (x ∷ [])) ≡ onward (first_repeat (seen ++ (y ∷ [])) xs) (place_of x) (repeats ((seen ++ (y ∷ [])) ++ xs) x)
          → cond b (Some (place_of y)) (first_repeat (seen ++ (y ∷ [])) (xs ++ (x ∷ []))) ≡ onward (cond b (Some (place_of y)) (first_repeat (seen ++ (y ∷ [])) xs)) (place_of x) (repeats (seen ++ (y ∷ xs)) x)
      by true ih = refl
      by false ih = ih ∙ ap (λ l. onward (first_repeat (seen ++ (y ∷ [])) xs) (place_of x) (repeats l x)) (append_assoc seen (y ∷ []) xs)

  pairs_join : (xs ys : List (Mark T)) → length (pairs_listed (xs ++ ys)) ≡ length (pairs_listed xs) + length (pairs_listed ys)
  pairs_join [] ys = omega arith
  pairs_join (Lists p c ∷ xs) ys = let ih = pairs_join xs ys in omega arith
  pairs_join (Puts p o ∷ xs) ys = pairs_join xs ys

  orders_join : (xs ys : List (Mark T)) → length (orders_put (xs ++ ys)) ≡ length (orders_put xs) + length (orders_put ys)
  orders_join [] ys = omega arith
  orders_join (Lists p c ∷ xs) ys = orders_join xs ys
  orders_join (Puts p o ∷ xs) ys = let ih = orders_join xs ys in omega arith

  marks_sum : (xs : List (Mark T)) → length (pairs_listed xs) + length (orders_put xs) ≡ length xs
  marks_sum [] = refl
  marks_sum (Lists p c ∷ xs) = let ih = marks_sum xs in omega arith
  marks_sum (Puts p o ∷ xs) = let ih = marks_sum xs in omega arith

  -- what is noted of the marks seen so far
  pub record Noted (front : List (Mark T)) (s : Seen) : Type 0 where
    pub first : s.first ≡ first_repeat [] front
    pub pairs : s.counts.pairs ≡ length (pairs_listed front)
    pub orders : s.counts.orders ≡ length (orders_put front)

  -- where no repeat was found, none of the marks in front of a block is like an order of it
  only_own : (before done : List (Mark T)) (q p : ℕ) (o : Order T) → Under None before → first_repeat [] (before ++ (Lists q o.pair ∷ done)) ≡ None
      → repeats (before ++ (Lists q o.pair ∷ done)) (Puts p o) ≡ repeats done (Puts p o)
  unfolding alike
  only_own before done q p o u h =
      let fresh = (none_distinct (before ++ (Lists q o.pair ∷ done)) h).apart before done (Lists q o.pair) refl in
      repeats_behind before (Lists q o.pair ∷ done) (Puts p o)
      (unlisted_unput q p o None before u (λ c e. nowhere e) fresh)

  -- so the block alone tells
  told_by_own : (before done : List (Mark T)) (q p : ℕ) (o : Order T) → Under None before → (f : Option ℕ) → f ≡ first_repeat [] (before ++ (Lists q o.pair ∷ done))
      → onward f p (repeats done (Puts p o)) ≡ onward (first_repeat [] (before ++ (Lists q o.pair ∷ done))) p (repeats (before ++ (Lists q o.pair ∷ done)) (Puts p o))
  told_by_own before done q p o u None e = ap₂ (λ g b. onward g p b) e (sym (only_own before done q p o u (sym e)))
  told_by_own before done q p o u (Some r) e = ap (λ g. onward g p (repeats (before ++ (Lists q o.pair ∷ done)) (Puts p o))) e

  -- the runs over two parts
  runs_split : {S : Type 0} (R : S → Mark T → S → Type 0) (s u : S) (xs ys : List (Mark T)) → Runs R s (xs ++ ys) u → (t : S) × Runs R s xs t × Runs R t ys u
  runs_split R s u [] ys h = (s, refl, h)
  runs_split R s u (x ∷ xs) ys h = let r = runs_split R h.0 u xs ys h.2 in (r.0, (h.0, h.1, r.1), r.2)

module _ {T : Type 0} (F : venue.Form T) (m : List ℕ) where
  -- ms begins with a pair and its sides, as they are read, and goes on with rest
  record ReadBlock (ms rest : List (Mark T)) : Type 0 where
    place : ℕ
    pair : Pair
    orders : List (Mark T)
    end : ℕ
    split : ms ≡ Lists place pair ∷ (orders ++ rest)
    inside : place + 7 ≤ length m
    sides : sides_at F m pair (place + 7) ≡ Ok (orders, end)

  abbrev ReadBlocks : ℕ → List (Mark T) → Type 0
  ReadBlocks zero ms = ms ≡ []
  ReadBlocks (suc n) ms = (rest : List (Mark T)) × ReadBlock ms rest × ReadBlocks n rest

  abbrev OneRead : Spanned (Mark T)
  OneRead p ms e = (rest : List (Mark T)) → ReadBlock (ms ++ rest) rest

  pair_read_so : (p : ℕ) → Each OneRead p (pair_at F m p)
  unfolding pair_at
  pair_read_so p = each_field OneRead p (field_at m 7 pair_of p) _ (λ c q h. by c q (field_inside m 7 pair_of p h) (sides_at F m c q) refl)
    where
      by : (c : Pair) (q : ℕ) → FieldScanned m 7 pair_of p c q → (x : Scan (List (Mark T))) → sides_at F m c q ≡ x → Each OneRead p (x ▸ λ ys e. Ok (Lists p c ∷ ys, e))
      by c q i (Err y) k = each_err OneRead p y
      by c q i (Ok v) k = each_ok OneRead p (Lists p c ∷ v.0) v.1 (λ rest. record {
        place = p;
        pair = c;
        orders = v.0;
        end = v.1;
        split = refl;
        inside = subst (λ n. n ≤ length m) i.after i.inside;
        sides = ap (sides_at F m c) (sym i.after) ∙ k;
      })

  blocks_read : (ms : List (Mark T)) (e : ℕ) (x : Parts F m ms e) → ReadBlocks x.count.value ms
  blocks_read ms e x = each_times OneRead (λ n p ms e. ReadBlocks n ms) (λ p. refl) (λ n p q e xs ys h k. (ys, h ys, k)) (pair_at F m) pair_read_so x.count.value 11 ms e x.listed

  module _ (c : Pair) (p : ℕ) (xs : List (Mark T)) (e : ℕ) (h : sides_at F m c p ≡ Ok (xs, e)) where
    sides_own : Own c xs
    sides_own = each_then (Its F m c) (Its F m c) (Its F m c) (its_join F m c) p (side_at F m c Bid p) _ (its_side F m c Bid p) (λ r. its_side F m c Offer r) xs e h

    sides_rise : Rising p xs e
    sides_rise = each_then Rising Rising Rising rising_join p (side_at F m c Bid p) _ (rising_side F m c Bid p) (λ r. rising_side F m c Offer r) xs e h

  -- at an order: the block so far tells
  put_own : (before done todo : List (Mark T)) (q p k : ℕ) (o : Order T) (s t : Seen) → s.start ≡ q + 7 → Under None before → length (before ++ (Lists q o.pair ∷ done)) < length m → OrderSeen F m s p o t
      → sides_at F m o.pair (q + 7) ≡ Ok (done ++ (Puts p o ∷ todo), k) → Own o.pair done → Noted (before ++ (Lists q o.pair ∷ done)) s → Noted ((before ++ (Lists q o.pair ∷ done)) ++ (Puts p o ∷ [])) t
  put_own before done todo q p k o s t start under few h sides own n =
      let front = before ++ (Lists q o.pair ∷ done) in
      let rise = sides_rise o.pair (q + 7) (done ++ (Puts p o ∷ todo)) k sides in
      let behind : met p o.id.bytes (Puts p o ∷ todo) ≡ false = among_behind (puts_id p o.id.bytes) p (id_behind p o.id.bytes) p (Puts p o ∷ todo) k (omega arith) (rising_behind (q + 7) done todo (Puts p o) k rise) in
      let decided : met p o.id.bytes (done ++ (Puts p o ∷ todo)) ≡ repeats done (Puts p o) =
      among_front (puts_id p o.id.bytes) done (Puts p o ∷ todo) behind ∙ met_front p o done own (rising_below (q + 7) k done todo (Puts p o) rise) in
      let sum = marks_sum front in
      let i = n.orders in
      record {
        first = h.first o.pair (done ++ (Puts p o ∷ todo)) k (ap (sides_at F m o.pair) start ∙ sides)
            ∙ ap (onward s.first p) decided
            ∙ told_by_own before done q p o under s.first n.first
            ∙ sym (first_more [] front (Puts p o));
        pairs = h.pairs ∙ n.pairs ∙ omega (arith, pairs_join front (Puts p o ∷ []));
        orders = h.orders (omega arith) ∙ omega (arith, orders_join front (Puts p o ∷ []));
      }

  puts_run : (before : List (Mark T)) (q : ℕ) (c : Pair) (k : ℕ) (done todo : List (Mark T)) (s t : Seen) → s.start ≡ q + 7 → Under None before → length (before ++ (Lists q c ∷ (done ++ todo))) ≤ length m
      → sides_at F m c (q + 7) ≡ Ok (done ++ todo, k) → Own c done → Own c todo → Noted (before ++ (Lists q c ∷ done)) s → Runs (MarkSeen F m) s todo t → Noted (before ++ (Lists q c ∷ (done ++ todo))) t
  puts_run before q c k done [] s t start under few sides own its n h =
      subst (λ xs. Noted (before ++ (Lists q c ∷ xs)) t) (sym (append-nil done)) (subst (λ u. Noted (before ++ (Lists q c ∷ done)) u) (sym h) n)
  puts_run before q c k done (Lists p d ∷ todo) s t start under few sides own its n h = absurd its
  puts_run before q c k done (Puts p o ∷ todo) s t start under few sides own its n h =
      let e = its.0 in
      let u = h.0 in
      let step = h.1 in
      let joined : (done ++ (Puts p o ∷ [])) ++ todo ≡ done ++ (Puts p o ∷ todo) = append_assoc done (Puts p o ∷ []) todo in
      let room : length (before ++ (Lists q c ∷ done)) < length m = omega (arith, length-append before (Lists q c ∷ done), length-append before (Lists q c ∷ (done ++ (Puts p o ∷ todo))), length-append done (Puts p o ∷ todo)) in
      let now : Noted ((before ++ (Lists q c ∷ done)) ++ (Puts p o ∷ [])) u =
      subst (λ d. length (before ++ (Lists q d ∷ done)) < length m → sides_at F m d (q + 7) ≡ Ok (done ++ (Puts p o ∷ todo), k) → Own d done → Noted (before ++ (Lists q d ∷ done)) s → Noted ((before ++ (Lists q d ∷ done)) ++ (Puts p o ∷ [])) u) e
      (λ few. put_own before done todo q p k o s u start under few step) room sides own n in
      subst (λ xs. Noted (before ++ (Lists q c ∷ xs)) t) joined
      (puts_run before q c k (done ++ (Puts p o ∷ [])) todo u t (step.start ∙ start) under
      (subst (λ xs. length (before ++ (Lists q c ∷ xs)) ≤ length m) (sym joined) few)
      (subst (λ xs. sides_at F m c (q + 7) ≡ Ok (xs, k)) (sym joined) sides)
      (own_join c done (Puts p o ∷ []) own (e, tt)) its.1
      (subst (λ xs. Noted xs u) (append_assoc before (Lists q c ∷ done) (Puts p o ∷ [])) now)
      h.2)

  module _ (all : List (Mark T)) (e : ℕ) (read : snapshot_of F m ≡ Ok (all, e)) where
    -- at a pair: those in front of it tell
    list_step : (front back : List (Mark T)) (p : ℕ) (c : Pair) (s t : Seen) → all ≡ front ++ (Lists p c ∷ back) → Noted front s → PairSeen F m s p c t → Noted (front ++ (Lists p c ∷ [])) t
    list_step front back p c s t z n h =
        let rise : Rising 11 (front ++ (Lists p c ∷ back)) (length m) = subst (λ xs. Rising 11 xs (length m)) z (marks_rise F m all e read) in
        let behind : listed p c.bytes (Lists p c ∷ back) ≡ false = among_behind (lists_pair p c.bytes) p (pair_behind p c.bytes) p (Lists p c ∷ back) (length m) (omega arith) (rising_behind 11 front back (Lists p c) (length m) rise) in
        let decided : listed p c.bytes all ≡ repeats front (Lists p c) = ap (listed p c.bytes) z
        ∙ among_front (lists_pair p c.bytes) front (Lists p c ∷ back) behind ∙ listed_front p c front (rising_below 11 (length m) front back (Lists p c) rise) in
        let few = few_marks F m all e read in
        let sum = marks_sum front in
        let i = n.pairs in
        record {
          first = h.first all e read ∙ ap₂ (λ f b. onward f p b) n.first decided ∙ sym (first_more [] front (Lists p c));
          pairs = h.pairs (omega (arith, ap length z, length-append front (Lists p c ∷ back))) ∙ omega (arith, pairs_join front (Lists p c ∷ []));
          orders = h.orders ∙ n.orders ∙ omega (arith, orders_join front (Lists p c ∷ []));
        }

    blocks_run : (n : ℕ) (front ms : List (Mark T)) (s t : Seen) → all ≡ front ++ ms → ReadBlocks n ms → Under None front → Noted front s → Runs (MarkSeen F m) s ms t → Noted all t
    blocks_run zero front ms s t z h under w r =
        let same : t ≡ s = subst (λ xs. Runs (MarkSeen F m) s xs t) h r in
        let ended : all ≡ front = z ∙ ap (λ xs. front ++ xs) h ∙ append-nil front in
        subst (λ xs. Noted xs t) (sym ended) (subst (λ u. Noted front u) (sym same) w)
    blocks_run (suc n) front ms s t z h under w r =
        let rest = h.0 in
        let b = h.1 in
        let q = b.place in
        let c = b.pair in
        let xs = b.orders in
        let whole : all ≡ front ++ (Lists q c ∷ (xs ++ rest)) = z ∙ ap (λ ys. front ++ ys) b.split in
        let run : Runs (MarkSeen F m) s (Lists q c ∷ (xs ++ rest)) t = subst (λ ys. Runs (MarkSeen F m) s ys t) b.split r in
        let u = run.0 in
        let step = run.1 in
        let parts = runs_split (MarkSeen F m) u t xs rest run.2 in
        let own = sides_own c (q + 7) xs b.end b.sides in
        let listed-now = list_step front (xs ++ rest) q c s u whole w step in
        let regrouped : all ≡ (front ++ (Lists q c ∷ xs)) ++ rest = whole ∙ sym (append_assoc front (Lists q c ∷ xs) rest) in
        let few : length (front ++ (Lists q c ∷ xs)) ≤ length m = omega (arith, few_marks F m all e read, ap length regrouped, length-append (front ++ (Lists q c ∷ xs)) rest) in
        let noted-then = puts_run front q c b.end [] xs u parts.0 (step.start b.inside) under few b.sides tt own listed-now parts.1 in
        blocks_run n (front ++ (Lists q c ∷ xs)) rest parts.0 t regrouped h.2 (under_join None front (Lists q c ∷ xs) under (λ d. own_under c xs own)) noted-then parts.2

    -- from the beginning to the end
    all_noted : (s t : Seen) → Noted {T = T} [] s → Runs (MarkSeen F m) s all t → Noted all t
    all_noted s t w r = let x = snapshot_parts F m all e read in blocks_run x.count.value [] all s t refl (blocks_read all e x) tt w r

  -- a walk that ends without fault: what is noted then is the verdict
  pub checked_so : (s t : Seen) (e : ℕ) → Noted {T = T} [] s → Walked (MarkSeen F m) (snapshot_of F m) s (Ok e) t → told t.first t.counts ≡ checked (snapshot_of F m)
  unfolding checked
  checked_so s t e w h = by (snapshot_of F m) refl h.answer
    where
      by : (x : Scan (List (Mark T))) → snapshot_of F m ≡ x → Ok e ≡ ends x → told t.first t.counts ≡ checked x
      by (Err y) k a = no a
      by (Ok v) k a =
          let n = all_noted v.0 v.1 k s t w (h.done v.0 v.1 k) in
          ap₂ told n.first (ap₂ (λ a b. record { pairs = a; orders = b }) n.pairs n.orders)

-- a fault that ends the walk is the verdict
pub checked_fault : {T : Type 0} (x : Scan (List (Mark T))) (y : MessageFault) → Err y ≡ ends x → checked x ≡ Err y
unfolding checked
checked_fault (Ok v) y h = no (sym h)
checked_fault (Err w) y h = let z : w ≡ y = cc in ap Err z
