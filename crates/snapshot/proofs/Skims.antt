-- What look-ups in the bytes say of what a scan lists.
use Rattle.std.proofs.Common.{Bor, None, take, drop, take_all, ◌≡◌, ℕ, zero, suc, ◌+◌, ◌-◌, ◌*◌, ◌^◌, ◌<◌, ◌≤◌, min, Bool, true, false, cond, ◌&&◌, ◌||◌, eqb, ltb, List, [], ◌∷◌, ◌++◌, length, Some, Ok, Err, Decides, Option, Result, sym, refl, ap, ◌∙◌, subst, inl, inr, suc-mul, zero-mul, sub-one, arith, length-drop, length-take}
use Rattle.std.specs.declared.ops.ControlFlow.{ControlFlow}
use Rattle.std.specs.declared.ops.ControlFlow.TheVariants.{Continue, Break}
use Rattle.std.specs.declared.ops.Range.{Range}
use Rattle.std.specs.Cmp.Lexicographic.{pointwise}
use Rattle.std.specs.Option.{MatchOption, IfSome, IsSomeAnd, option_map}
use Rattle.std.specs.Bool.{MatchBool}
use Rattle.std.specs.Iterator.{Yields, YieldsThen}
use Rattle.std.specs.Slice.{IsGetRangeResult}
use Rattle.std.specs.List.{FoldsTo, list_any}
use Rattle.std.specs.Str.{bytes_eq}
use Rattle.std.proofs.Math.Bool.{or-false, or-true, and-false}
use Rattle.std.proofs.lemmas.List.Folds.{list_any-append}
use Rattle.std.proofs.lemmas.Slice.Eq.{bytes_eq-Decides}
use Rattle.std.proofs.lemmas.Bool.{both_ways, lt-ltb, le-ltb, cond-true, cond-false, cases_lt, eqb-false}
use Rattle.std.proofs.lemmas.Bool.Decides.{same_from_decides, Decides-like}
use Rattle.fields.specs.Values.{Pair, Price, Amount}
use Rattle.fields.specs.declared.integers.Integer.{Integer}
use Rattle.book.specs.Ladder.{OrderId}
use Rattle.book.specs.declared.order.Order.{Order}
use Rattle.book.specs.declared.order.Side.{Side}
use Rattle.book.specs.declared.order.Side.TheVariants.{Bid, Offer}
use Rattle.readers.specs.Values.{pair_of, label_of, price_of, amount_of, integer_of}
use Rattle.readers.specs.Lawful.{label_law, pair_law}
use Rattle.venue.specs.Form as venue
use Rattle.message.specs.declared.fault.MessageFault.{MessageFault}
use Rattle.message.specs.declared.fault.MessageFault.TheVariants.{Miscounted}
use Rattle.message.specs.Reading.{Reading, ◌▷◌, field, value_at, tail_at}
use Rattle.message.proofs.Readings.{value_read, tail_read}
use Rattle.snapshot.specs.declared.mark.Mark.{Mark}
use Rattle.snapshot.specs.declared.mark.Mark.TheVariants.{Lists, Puts}
use Rattle.snapshot.specs.Scanning.{Scan, ◌▸◌, ◌⨟◌, field_at, tail_then, times}
use Rattle.snapshot.specs.Snapshot.{whole_order, order_at, level_at, side_at, pair_at, pairs_from, snapshot_of}
use Rattle.snapshot.specs.Skims.{puts_id, lists_pair, met, listed, Says, Skims, Ends, ListsPair, id_offset, order_width, count_or0, count_in, strided, sides_at}

-- bytes that are looked for at an offset, and are there
pub compared : (m bs : List ℕ) (w at : ℕ) (r : Bool) → 0 < w → length bs ≡ w → Decides r ((at + length bs ≤ length m) × (field at (length bs) m ≡ bs)) → r ≡ bytes_eq (field at w m) bs
compared m bs w at r some long tells = same_from_decides r (bytes_eq (field at w m) bs) (Decides-like r there back tells) (bytes_eq-Decides (field at w m) bs)
  where
    there : (at + length bs ≤ length m) × (field at (length bs) m ≡ bs) → field at w m ≡ bs
    there t = subst (λ n. field at n m ≡ bs) long t.1

    back : field at w m ≡ bs → (at + length bs ≤ length m) × (field at (length bs) m ≡ bs)
    back e = (omega (arith, simp (length-take, length-drop) at (ap length e)), subst (λ n. field at n m ≡ bs) (sym long) e)

-- bytes that stand at an offset, as the code compares them
pub same_told : (m bs : List ℕ) (at : ℕ) (o : Option (Bor (List ℕ))) (r : Bool) {P : Bor (List ℕ) → Type 0} → IsGetRangeResult m at (length m) o → MatchOption o (r ≡ false) P
    → ((x : Bor (List ℕ)) → P x → r ≡ pointwise eqb bs (take (length bs) x.now)) → Decides r ((at + length bs ≤ length m) × (field at (length bs) m ≡ bs))
same_told m bs at None r g h f = (λ t. absurd (both_ways r h t), λ t. absurd (elim g.0 [ inl l ↦ omega (arith, t.0) | inr l ↦ omega arith ]))
same_told m bs at (Some x) r g h f =
    let i = g.0 in
    let whole : x.now ≡ drop at m = i.2 ∙ take_all (length m - at) (drop at m) (omega (arith, length-drop at m)) in
    let told : r ≡ bytes_eq bs (field at (length bs) m) = f x h ∙ ap (λ (l : List ℕ). bytes_eq bs (take (length bs) l)) whole in
    let same = bytes_eq-Decides bs (field at (length bs) m) in (
      λ t. let e = same.0 (sym told ∙ t) in (omega (arith, ap length e, length-take (length bs) (drop at m), length-drop at m, i.0), sym e),
      λ t. told ∙ same.1 (sym t.1),
    )

-- Ids at a stride.
module _ (m : List ℕ) (upto : ℕ) (id : List ℕ) (step : ℕ) where
  pub strided_none : (n at : ℕ) → ((k : ℕ) → k < n → at + k * step < upto → bytes_eq (field (at + k * step) 15 m) id ≡ false) → strided m upto id step n at ≡ false
  unfolding strided
  strided_none zero at h = refl
  strided_none (suc n) at h =
      let here : ltb at upto && bytes_eq (field at 15 m) id ≡ false = elim (cases_lt at upto) [
        | inl l ↦
            let first : at + 0 * step ≡ at = omega (arith, zero-mul step) in
            ap (λ b. ltb at upto && b) (subst (λ p. bytes_eq (field p 15 m) id ≡ false) first (h 0 (omega arith) (omega arith))) ∙ and-false (ltb at upto)
        | inr l ↦ ap (λ b. b && bytes_eq (field at 15 m) id) (le-ltb at upto l)
      ] in
      ap (λ b. b || strided m upto id step n (at + step)) here ∙ strided_none n (at + step) (λ k l u.
      let next : at + suc k * step ≡ at + step + k * step = omega (arith, suc-mul k step) in
      subst (λ p. bytes_eq (field p 15 m) id ≡ false) next (h (suc k) (omega arith) (omega arith)))

  pub strided_some : (n at k : ℕ) → k < n → at + k * step < upto → bytes_eq (field (at + k * step) 15 m) id ≡ true → strided m upto id step n at ≡ true
  unfolding strided
  strided_some zero at k l u e = absurd (omega arith)
  strided_some (suc n) at zero l u e =
      let first : at + 0 * step ≡ at = omega (arith, zero-mul step) in
      ap (λ b. (b && bytes_eq (field at 15 m) id) || strided m upto id step n (at + step)) (lt-ltb at upto (omega arith)) ∙ ap (λ b. b || strided m upto id step n (at + step)) (subst (λ p. bytes_eq (field p 15 m) id ≡ true) first e)
  strided_some (suc n) at (suc k) l u e =
      let next : at + suc k * step ≡ at + step + k * step = omega (arith, suc-mul k step) in
      ap (λ b. (ltb at upto && bytes_eq (field at 15 m) id) || b) (strided_some n (at + step) k (omega arith) (omega arith) (subst (λ p. bytes_eq (field p 15 m) id ≡ true) next e)) ∙ or-true (ltb at upto && bytes_eq (field at 15 m) id)

  -- none from the offset on
  pub strided_past : (n at : ℕ) → upto ≤ at → strided m upto id step n at ≡ false
  strided_past n at h = strided_none n at (λ k l u. absurd (omega arith))

  pub strided_done : (n at : ℕ) → n ≡ 0 → strided m upto id step n at ≡ false
  unfolding strided
  strided_done n at h = ap (λ k. strided m upto id step k at) h

  -- one step over the ids
  module _ (at : ℕ) (r : Bool) (is : r ≡ bytes_eq (field at 15 m) id) where
    pub strided_here : (n : ℕ) → 0 < n → at < upto → r ≡ true → strided m upto id step n at ≡ true
    unfolding strided
    strided_here zero h l e = absurd (omega arith)
    strided_here (suc n) h l e = ap (λ b. (b && bytes_eq (field at 15 m) id) || strided m upto id step n (at + step)) (lt-ltb at upto l) ∙ ap (λ b. b || strided m upto id step n (at + step)) (sym is ∙ e)

    further : (n next : ℕ) → upto ≤ 2 ^ 64 - 1 → next ≡ min (at + step) (2 ^ 64 - 1) → strided m upto id step n (at + step) ≡ strided m upto id step n next
    further n next u h = elim (cases_lt (at + step) (2 ^ 64)) [
      | inl l ↦ let e : at + step ≡ next = omega arith in ap (λ k. strided m upto id step n k) e
      | inr l ↦ strided_past n (at + step) (omega arith) ∙ sym (strided_past n next (omega arith))
    ]

    pub strided_next : (n next : ℕ) → 0 < n → r ≡ false → upto ≤ 2 ^ 64 - 1 → next ≡ min (at + step) (2 ^ 64 - 1) → strided m upto id step n at ≡ strided m upto id step (n - 1) next
    unfolding strided
    strided_next zero next h e u k = absurd (omega arith)
    strided_next (suc n) next h e u k = ap (λ b. (ltb at upto && b) || strided m upto id step n (at + step)) (sym is ∙ e) ∙ ap (λ b. b || strided m upto id step n (at + step)) (and-false (ltb at upto)) ∙ further n next u k ∙ ap (λ j. strided m upto id step j next) (sym (sub-one (suc n)))

  -- What a chain over the ids answers: each that it gave, of len, stands in its place before the offset.
  module _ (n at len : ℕ) (item : ℕ → Option ℕ) (places : (k : ℕ) → IfSome (item k) (λ x. (x ≡ at + k * step) × (x < upto))) (short : len ≤ n) {Y N : ℕ → Type 0} (yes : (x : ℕ) → Y x → bytes_eq (field x 15 m) id ≡ true) (no : (x : ℕ) → N x → bytes_eq (field x 15 m) id ≡ false) where
    placed : (o : Option ℕ) (k : ℕ) → IfSome o (λ x. (x ≡ at + k * step) × (x < upto)) → IsSomeAnd o Y → (at + k * step < upto) × Y (at + k * step)
    placed None k a h = absurd h
    placed (Some x) k a h = (omega (arith, a.0, a.1), subst Y a.0 h)

    passed : (o : Option ℕ) (k v : ℕ) → IfSome o (λ x. (x ≡ at + k * step) × (x < upto)) → option_map (λ (y : ℕ). y) o ≡ Some v → IfSome o N → N (at + k * step)
    passed None k v a e h = let z : ◌≡◌ {A = ℕ} 0 1 = cc in absurd (omega arith)
    passed (Some x) k v a e h = subst N a.0 h

    pub strided_told : (r : Bool) {K W : Type 0} → K → MatchBool r (K → (k : ℕ) × (k < len) × IsSomeAnd (item k) Y) (W × (K → (k : ℕ) → IfSome (item k) N))
        → (W → (k : ℕ) → k < n → at + k * step < upto → (v : ℕ) × (option_map (λ (y : ℕ). y) (item k) ≡ Some v)) → r ≡ strided m upto id step n at
    strided_told true keeps g all =
        let h = g keeps in
        let i = placed (item h.0) h.0 (places h.0) h.2 in
        sym (strided_some n at h.0 (omega (arith, h.1)) i.0 (yes (at + h.0 * step) i.1))
    strided_told false keeps h all = sym (strided_none n at (λ k l u. let v = all h.0 k l u in no (at + k * step) (passed (item k) k v.0 (places k) v.1 (h.1 keeps k))))

-- What a scan without fault says of its parts.
no : {X A : Type 0} {v : A} {y : MessageFault} → ◌≡◌ {A = Result A MessageFault} (Err y) (Ok v) → X
no h = let z : ◌≡◌ {A = ℕ} 0 1 = cc in absurd (omega arith)

then_inv : {A B : Type 0} (x : Scan A) (f : A → ℕ → Scan B) (y : B × ℕ) → x ▸ f ≡ Ok y → (a : A) × (q : ℕ) × (x ≡ Ok (a, q)) × (f a q ≡ Ok y)
then_inv (Ok z) f y h = (z.0, z.1, refl, h)
then_inv (Err e) f y h = no h

ended : {A : Type 0} (x : Reading A) (n : ℕ) (v : A) (e : ℕ) → ◌▷◌ {B = A × ℕ} x (λ y. Ok (y, n)) ≡ Ok (v, e) → (x ≡ Ok v) × (e ≡ n)
ended {A} (Ok y) n v e h =
    let same : ◌≡◌ {A = A × ℕ} (y, n) (v, e) = cc in
    (ap (λ (t : A × ℕ). Ok t.0) same, sym (ap (λ (t : A × ℕ). t.1) same))
ended (Err f) n v e h = no h

-- both of two scans, one after the other
record Joined {A : Type 0} (x : Scan (List A)) (f : ℕ → Scan (List A)) (ms : List A) (e : ℕ) : Type 0 where
  xs : List A
  mid : ℕ
  ys : List A
  first : x ≡ Ok (xs, mid)
  then : f mid ≡ Ok (ys, e)
  both : ms ≡ xs ++ ys

seq_inv : {A : Type 0} (x : Scan (List A)) (f : ℕ → Scan (List A)) (ms : List A) (e : ℕ) → x ⨟ f ≡ Ok (ms, e) → Joined x f ms e
seq_inv {A} x f ms e h =
    let i = then_inv x (λ xs p. f p ▸ λ ys e. Ok (xs ++ ys, e)) (ms, e) h in
    let j = then_inv (f i.1) (λ ys e. Ok (i.0 ++ ys, e)) (ms, e) i.3 in
    let k = j.3 in
    let same : ◌≡◌ {A = List A × ℕ} (i.0 ++ j.0, j.1) (ms, e) = cc in
    record { xs = i.0; mid = i.1; ys = j.0; first = i.2; then = j.2 ∙ ap (λ (t : List A × ℕ). Ok (j.0, t.1)) same; both = sym (ap (λ (t : List A × ℕ). t.0) same) }

-- the next of n, of which i are passed
times_more : {A : Type 0} (f : ℕ → Scan (List A)) (n i p : ℕ) → i < n → times f (n - i) p ≡ (f p ⨟ times f (n - (i + 1)))
unfolding times
times_more f n i p l = let z : n - i ≡ suc (n - (i + 1)) = omega arith in ap (λ k. times f k p) z

times_over : {A : Type 0} (f : ℕ → Scan (List A)) (n i p : ℕ) → n ≤ i → times f (n - i) p ≡ Ok ([], p)
unfolding times
times_over f n i p l = let z : n - i ≡ 0 = omega arith in ap (λ k. times f k p) z

-- a field that is read
record FieldRead {A : Type 0} (m : List ℕ) (w : ℕ) (f : List ℕ → Option A) (p : ℕ) (v : A) (e : ℕ) : Type 0 where
  within : e ≤ length m
  value : f (field p w m) ≡ Some v
  read : value_at m w f p ≡ Ok v
  end : e ≡ p + w

field_inv : {A : Type 0} (m : List ℕ) (w : ℕ) (f : List ℕ → Option A) (p : ℕ) (v : A) (e : ℕ) → field_at m w f p ≡ Ok (v, e) → FieldRead m w f p v e
unfolding field_at
field_inv m w f p v e h =
    let i = ended (value_at m w f p) (p + w) v e h in
    let r = value_read m w f p v i.0 in
    record { within = omega (arith, i.1, r.within); value = r.value; read = i.0; end = i.1 }

counted : (m : List ℕ) (p : ℕ) (k : Integer 4) (q : ℕ) → FieldRead m 4 (integer_of 4) p k q → k.value ≡ count_in m p
counted m p k q h = ap count_or0 (sym h.read)

tail_inv : {T : Type 0} (F : venue.Form T) (m : List ℕ) (p : ℕ) (t : T) (e : ℕ) → tail_then F m p ≡ Ok (t, e) → (e ≡ p + F.width) × (e ≤ length m)
unfolding tail_then
tail_inv F m p t e h =
    let i = ended (tail_at F m p) (p + F.width) t e h in
    let r = tail_read F m p t i.0 in
    (i.1, omega (arith, i.1, r.within))

-- a range of numbers: one more, or none left
abbrev Ranges : Range ℕ → Option ℕ → Range ℕ → Type 0
Ranges s r t = (t.end ≡ s.end) × MatchOption r ((s.end - s.start ≡ 0) × (t.start ≡ s.start)) (λ x. (0 < s.end - s.start) × (x ≡ s.start) × (t.start ≡ s.start + 1))

-- how many a range gave, of all
pub given : (xs : List ℕ) (s t : Range ℕ) → Yields Ranges s xs t → s.end - s.start ≡ length xs + (t.end - t.start)
given [] s t y = omega (arith, ap (λ (r : Range ℕ). r.end - r.start) y)
given (x ∷ xs) s t y = omega (arith, given xs y.0 t y.2, y.1.0, y.1.1.0, y.1.1.2)

pub drained : (xs : List ℕ) (n : ℕ) (u : Range ℕ) → YieldsThen Ranges (record { start = 0; end = n }) xs None u → length xs ≡ n
drained xs n u y = omega (arith, given xs _ y.0 y.1, y.2.1.0)

-- Tests of marks.
module _ {T : Type 0} (t : Mark T → Bool) where
  pub among_later : (xs ys : List (Mark T)) → list_any t xs ≡ false → list_any t (xs ++ ys) ≡ list_any t ys
  among_later xs ys h = list_any-append t xs ys ∙ ap (λ b. b || list_any t ys) h

  pub among_sooner : (xs ys : List (Mark T)) → list_any t xs ≡ true → list_any t (xs ++ ys) ≡ true
  among_sooner xs ys h = list_any-append t xs ys ∙ ap (λ b. b || list_any t ys) h

  -- what is listed from low on passes nowhere, and ends at or after low
  abbrev pub Void : ℕ → (ℕ → Scan (List (Mark T))) → Type 0
  Void low f = (p : ℕ) (ms : List (Mark T)) (e : ℕ) → low ≤ p → f p ≡ Ok (ms, e) → (list_any t ms ≡ false) × (low ≤ e)

  pub times_void : (low : ℕ) (f : ℕ → Scan (List (Mark T))) → Void low f → (n : ℕ) → Void low (times f n)
  unfolding times
  times_void low f h zero p ms e l k =
      let same : ◌≡◌ {A = List (Mark T) × ℕ} ([], p) (ms, e) = cc in
      (ap (λ (z : List (Mark T) × ℕ). list_any t z.0) (sym same), omega (arith, ap (λ (z : List (Mark T) × ℕ). z.1) same))
  times_void low f h (suc n) p ms e l k =
      let j = seq_inv (f p) (times f n) ms e k in
      let a = h p j.xs j.mid l j.first in
      let b = times_void low f h n j.mid j.ys e a.1 j.then in
      (ap (list_any t) j.both ∙ among_later j.xs j.ys a.0 ∙ b.0, b.1)

-- An order: one mark, with the bytes at the id's place.
record OrderRead {T : Type 0} (F : venue.Form T) (m : List ℕ) (p : ℕ) (ms : List (Mark T)) (e : ℕ) : Type 0 where
  order : Order T
  marks : ms ≡ Puts (p + id_offset F) order ∷ []
  named : order.id.bytes ≡ field (p + id_offset F) 15 m
  end : e ≡ p + order_width F
  within : e ≤ length m

module _ {T : Type 0} (F : venue.Form T) (m : List ℕ) (c : Pair) (s : Side) (v : Price) where
  order_made : (p : ℕ) (ms : List (Mark T)) (e : ℕ) (a : Amount) (i : OrderId) (t : T) (r d : ℕ) → r ≡ p + id_offset F → label_of 15 (field r 15 m) ≡ Some i → d ≡ p + order_width F → d ≤ length m → ◌≡◌ {A = Scan (List (Mark T))} (Ok (Puts r (whole_order c s v a i t) ∷ [], d)) (Ok (ms, e)) → OrderRead F m p ms e
  order_made p ms e a i t r d at-id id end within h =
      let same : ◌≡◌ {A = List (Mark T) × ℕ} (Puts r (whole_order c s v a i t) ∷ [], d) (ms, e) = cc in
      let ends : d ≡ e = ap (λ (z : List (Mark T) × ℕ). z.1) same in
      record {
        order = whole_order c s v a i t;
        marks = sym (ap (λ (z : List (Mark T) × ℕ). z.0) same) ∙ ap (λ k. Puts k (whole_order c s v a i t) ∷ []) at-id;
        named = ((label_law 15).sound (field r 15 m) i id).1 ∙ ap (λ k. field k 15 m) at-id;
        end = sym ends ∙ end;
        within = omega arith;
      }

  order_inv : (p : ℕ) (ms : List (Mark T)) (e : ℕ) → order_at F m c s v p ≡ Ok (ms, e) → OrderRead F m p ms e
  unfolding order_at
  order_inv p ms e h =
      let i = then_inv (field_at m 16 amount_of p) _ (ms, e) h in
      let a = field_inv m 16 amount_of p i.0 i.1 i.2 in
      by i.0 i.1 a.end F.order_tail_first refl i.3
    where
      by : (a : Amount) (q : ℕ) → q ≡ p + 16 → (b : Bool) → F.order_tail_first ≡ b → cond b
          (tail_then F m q ▸ λ t r. field_at m 15 (label_of 15) r ▸ λ i e. Ok (Puts r (whole_order c s v a i t) ∷ [], e))
          (field_at m 15 (label_of 15) q ▸ λ i r. tail_then F m r ▸ λ t e. Ok (Puts q (whole_order c s v a i t) ∷ [], e)) ≡ Ok (ms, e) → OrderRead F m p ms e
      by a q at true first h =
          let x = then_inv (tail_then F m q) _ (ms, e) h in
          let y = then_inv (field_at m 15 (label_of 15) x.1) _ (ms, e) x.3 in
          let tail = tail_inv F m q x.0 x.1 x.2 in
          let id = field_inv m 15 (label_of 15) x.1 y.0 y.1 y.2 in
          let place : cond F.order_tail_first F.width 0 ≡ F.width = cond-true _ _ _ first in
          order_made p ms e a y.0 x.0 x.1 y.1 (omega (arith, tail.0, place)) id.value (omega (arith, id.end, tail.0)) id.within y.3
      by a q at false first h =
          let x = then_inv (field_at m 15 (label_of 15) q) _ (ms, e) h in
          let y = then_inv (tail_then F m x.1) _ (ms, e) x.3 in
          let id = field_inv m 15 (label_of 15) q x.0 x.1 x.2 in
          let tail = tail_inv F m x.1 y.0 y.1 y.2 in
          let place : cond F.order_tail_first F.width 0 ≡ 0 = cond-false _ _ _ first in
          order_made p ms e a x.0 y.0 q y.1 (omega (arith, place)) id.value (omega (arith, id.end, tail.0)) tail.1 y.3

-- Orders, one after another.
record OrdersRead {T : Type 0} (F : venue.Form T) (m : List ℕ) (n p : ℕ) (ms : List (Mark T)) (e : ℕ) : Type 0 where
  strides : (upto : ℕ) (id : List ℕ) → met upto id ms ≡ strided m upto id (order_width F) n (p + id_offset F)
  unlisted : (upto : ℕ) (pair : List ℕ) → listed upto pair ms ≡ false
  end : e ≡ p + n * order_width F
  within : p ≤ length m → e ≤ length m

module _ {T : Type 0} (F : venue.Form T) (m : List ℕ) (c : Pair) (s : Side) (v : Price) where
  orders_inv : (n p : ℕ) (ms : List (Mark T)) (e : ℕ) → times (order_at F m c s v) n p ≡ Ok (ms, e) → OrdersRead F m n p ms e
  unfolding times strided
  orders_inv zero p ms e h =
      let same : ◌≡◌ {A = List (Mark T) × ℕ} ([], p) (ms, e) = cc in
      let none : ms ≡ [] = sym (ap (λ (z : List (Mark T) × ℕ). z.0) same) in
      let ends : p ≡ e = ap (λ (z : List (Mark T) × ℕ). z.1) same in
      record {
        strides = λ upto id. ap (met upto id) none;
        unlisted = λ upto pair. ap (listed upto pair) none;
        end = omega (arith, zero-mul (order_width F));
        within = λ l. omega arith;
      }
  orders_inv (suc n) p ms e h =
      let j = seq_inv (order_at F m c s v p) (times (order_at F m c s v) n) ms e h in
      let o = order_inv F m c s v p j.xs j.mid j.first in
      let rest = orders_inv n j.mid j.ys e j.then in
      let all : ms ≡ Puts (p + id_offset F) o.order ∷ j.ys = j.both ∙ ap (λ xs. xs ++ j.ys) o.marks in
      let further : j.mid + id_offset F ≡ (p + id_offset F) + order_width F = omega (arith, o.end) in
      record {
        strides = λ upto id.
            ap (met upto id) all
            ∙ ap (λ bs. (ltb (p + id_offset F) upto && bytes_eq bs id) || met upto id j.ys) o.named
            ∙ ap (λ b. (ltb (p + id_offset F) upto && bytes_eq (field (p + id_offset F) 15 m) id) || b) (rest.strides upto id ∙ ap (strided m upto id (order_width F) n) further);
        unlisted = λ upto pair. ap (listed upto pair) all ∙ rest.unlisted upto pair;
        end = omega (arith, o.end, rest.end, suc-mul n (order_width F));
        within = λ l. rest.within o.within;
      }

-- A level: its orders stand behind a price and their number.
pub record LevelRead {T : Type 0} (F : venue.Form T) (m : List ℕ) (p : ℕ) (ms : List (Mark T)) (e : ℕ) : Type 0 where
  pub strides : (upto : ℕ) (id : List ℕ) → met upto id ms ≡ strided m upto id (order_width F) (count_in m (p + 10)) (p + (14 + id_offset F))
  pub unlisted : (upto : ℕ) (pair : List ℕ) → listed upto pair ms ≡ false
  pub room : p + (14 + id_offset F) ≤ length m
  pub end : e ≡ p + (14 + count_in m (p + 10) * order_width F)
  pub within : e ≤ length m

module _ {T : Type 0} (F : venue.Form T) (m : List ℕ) (c : Pair) (s : Side) where
  inside_order : (b : Bool) → 16 + cond b F.width 0 ≤ order_width F
  inside_order true = omega arith
  inside_order false = omega arith

  one_inside : (k : ℕ) → (k ≡ 0 → ⊥) → id_offset F ≤ k * order_width F
  one_inside zero h = absurd (h refl)
  one_inside (suc k) h = omega (arith, inside_order F.order_tail_first, suc-mul k (order_width F))

  level_inv : (p : ℕ) (ms : List (Mark T)) (e : ℕ) → level_at F m c s p ≡ Ok (ms, e) → LevelRead F m p ms e
  unfolding level_at
  level_inv p ms e h =
      let i = then_inv (field_at m 10 price_of p) _ (ms, e) h in
      let price = field_inv m 10 price_of p i.0 i.1 i.2 in
      let j = then_inv (field_at m 4 (integer_of 4) i.1) _ (ms, e) i.3 in
      let count = field_inv m 4 (integer_of 4) i.1 j.0 j.1 j.2 in
      by i.0 i.1 j.0 j.1 price.end count (eqb j.0.value 0) refl j.3
    where
      by : (v : Price) (q : ℕ) (k : Integer 4) (r : ℕ) → q ≡ p + 10 → FieldRead m 4 (integer_of 4) q k r → (b : Bool) → eqb k.value 0 ≡ b
          → cond b (Err (Miscounted q)) (times (order_at F m c s v) k.value r) ≡ Ok (ms, e) → LevelRead F m p ms e
      by v q k r at count true some h = no h
      by v q k r at count false some h =
          let o = orders_inv F m c s v k.value r ms e h in
          let n : k.value ≡ count_in m (p + 10) = counted m q k r count ∙ ap (count_in m) at in
          let start : r + id_offset F ≡ p + (14 + id_offset F) = omega (arith, count.end) in
          let size : k.value * order_width F ≡ count_in m (p + 10) * order_width F = ap (λ j. j * order_width F) n in
          let first = one_inside k.value (eqb-false k.value 0 some) in
          let inside = o.within count.within in
          record {
            strides = λ upto id. o.strides upto id ∙ ap (λ j. strided m upto id (order_width F) j (r + id_offset F)) n ∙ ap (strided m upto id (order_width F) (count_in m (p + 10))) start;
            unlisted = o.unlisted;
            room = omega (arith, first, inside, o.end, count.end);
            end = omega (arith, o.end, count.end, size);
            within = inside;
          }

  pub level_unmet : (upto : ℕ) (id : List ℕ) → Void (puts_id upto id) upto (level_at F m c s)
  level_unmet upto id p ms e l h =
      let r = level_inv p ms e h in
      (r.strides upto id ∙ strided_past m upto id (order_width F) (count_in m (p + 10)) (p + (14 + id_offset F)) (omega arith), omega (arith, r.end))

  pub level_unlisted : (low upto : ℕ) (pair : List ℕ) → Void (lists_pair upto pair) low (level_at F m c s)
  level_unlisted low upto pair p ms e l h = let r = level_inv p ms e h in (r.unlisted upto pair, omega (arith, r.end))

  -- a side: its levels stand behind their number
  pub side_inv : (p : ℕ) (ms : List (Mark T)) (e : ℕ) → side_at F m c s p ≡ Ok (ms, e) → (p + 4 ≤ length m) × (times (level_at F m c s) (count_in m p) (p + 4) ≡ Ok (ms, e))
  unfolding side_at
  side_inv p ms e h =
      let i = then_inv (field_at m 4 (integer_of 4) p) _ (ms, e) h in
      let count = field_inv m 4 (integer_of 4) p i.0 i.1 i.2 in
      (omega (arith, count.within, count.end), ap (λ n. times (level_at F m c s) n (p + 4)) (sym (counted m p i.0 i.1 count)) ∙ ap (times (level_at F m c s) i.0.value) (sym count.end) ∙ i.3)

  pub side_unlisted : (low upto : ℕ) (pair : List ℕ) → Void (lists_pair upto pair) low (side_at F m c s)
  side_unlisted low upto pair p ms e l h = times_void (lists_pair upto pair) low (level_at F m c s) (level_unlisted low upto pair) (count_in m p) (p + 4) ms e (omega arith) (side_inv p ms e h).1

  pub side_unmet : (upto : ℕ) (id : List ℕ) → Void (puts_id upto id) upto (side_at F m c s)
  side_unmet upto id p ms e l h = times_void (puts_id upto id) upto (level_at F m c s) (level_unmet upto id) (count_in m p) (p + 4) ms e (omega arith) (side_inv p ms e h).1

-- What is answered of an id.
module _ {T : Type 0} (upto : ℕ) (id : List ℕ) where
  says_later : (xs ys : List (Mark T)) (e : ℕ) (a : ControlFlow Bool ℕ) → met upto id xs ≡ met upto id ys → Says upto id ys e a → Says upto id xs e a
  says_later xs ys e (Break true) h k = h ∙ k
  says_later xs ys e (Break false) h k = (h ∙ k.0, k.1)
  says_later xs ys e (Continue q) h k = (h ∙ k.0, k.1)

  module _ (x : Scan (List (Mark T))) (f : ℕ → Scan (List (Mark T))) where
    -- one scan, and then what follows it
    pub skims_on : (q : ℕ) (a : ControlFlow Bool ℕ) → Skims upto id x (Continue q) → Skims upto id (f q) a → Skims upto id (x ⨟ f) a
    skims_on q a h k = record {
      says = λ ms e z.
          let j = seq_inv x f ms e z in
          let i = h.says j.xs j.mid j.first in
          says_later ms j.ys e a (ap (met upto id) j.both ∙ among_later (puts_id upto id) j.xs j.ys i.0) (k.says j.ys e (ap f i.1 ∙ j.then));
    }

    -- one that breaks off, where what follows the offset puts nothing before it
    pub skims_off : (b : Bool) → Void (puts_id upto id) upto f → Skims upto id x (Break b) → Skims upto id (x ⨟ f) (Break b)
    skims_off true v h = record {
      says = λ ms e z.
          let j = seq_inv x f ms e z in
          ap (met upto id) j.both ∙ among_sooner (puts_id upto id) j.xs j.ys (h.says j.xs j.mid j.first);
    }
    skims_off false v h = record {
      says = λ ms e z.
          let j = seq_inv x f ms e z in
          let i = h.says j.xs j.mid j.first in
          let w = v j.mid j.ys e i.1 j.then in
          (ap (met upto id) j.both ∙ among_later (puts_id upto id) j.xs j.ys i.0 ∙ w.0, w.1);
    }

  -- calls that go over one block each, in turn: what is said of the blocks left is said of all
  module _ {F : Type 0} (f : ℕ → Scan (List (Mark T))) (R : F × ℕ → ℕ → F × ℕ → Type 0) (k : F) (turn : (at x : ℕ) (q : F × ℕ) → R (k, at) x q → Skims upto id (f at) (Continue q.1) × (q.0 ≡ k)) where
    skims_folded : (xs : List ℕ) (more n at : ℕ) (q : F × ℕ) → n ≡ length xs + more → FoldsTo R (k, at) xs q → (a : ControlFlow Bool ℕ) → Skims upto id (times f more q.1) a → Skims upto id (times f n at) a
    unfolding times
    skims_folded [] more n at q l c a h =
        let same : n ≡ more = omega arith in
        subst (λ (z : ℕ × ℕ). Skims upto id (times f z.0 z.1) a) {x = (more, q.1)} {y = (n, at)} (λ i. (sym same i, sym (ap (λ (v : F × ℕ). v.1) c) i)) h
    skims_folded (x ∷ xs) more n at q l c a h =
        let t = turn at x c.0 c.1 in
        let more-than : n ≡ suc (length xs + more) = omega arith in
        subst (λ z. Skims upto id (times f z at) a) (sym more-than)
        (skims_on (f at) (times f (length xs + more)) c.0.1 a t.0
        (skims_folded xs more (length xs + more) c.0.1 q refl (subst (λ (v : F × ℕ). FoldsTo R v xs q) {x = c.0} {y = (k, c.0.1)} (λ i. (t.1 i, c.0.1)) c.2) a h))

    steady : (xs : List ℕ) (at : ℕ) (q : F × ℕ) → FoldsTo R (k, at) xs q → q.0 ≡ k
    steady [] at q c = sym (ap (λ (v : F × ℕ). v.0) c)
    steady (x ∷ xs) at q c = steady xs c.0.1 q (subst (λ (v : F × ℕ). FoldsTo R v xs q) {x = c.0} {y = (k, c.0.1)} (λ i. ((turn at x c.0 c.1).1 i, c.0.1)) c.2)

    -- all of n went on, or one broke off
    module _ (clear : Void (puts_id upto id) upto f) (n at : ℕ) (xs : List ℕ) (q : F × ℕ) (c : FoldsTo R (k, at) xs q) (u : Range ℕ) (r : ControlFlow Bool ℕ) {N : Type 0} {B : ℕ → Type 0} where
      pub skims_tried : (o : Option ℕ) → YieldsThen Ranges (record { start = 0; end = n }) xs o u → MatchOption o N B → (N → r ≡ Continue q.1) → ((x : ℕ) → q.0 ≡ k → B x → (b : Bool) × Skims upto id (f q.1) (Break b) × (r ≡ Break b)) → Skims upto id (times f n at) r
      unfolding times
      skims_tried None y h went broke =
          let last : Skims upto id (times f 0 q.1) (Continue q.1) = record {
            says = λ ms e z.
                let same : ◌≡◌ {A = List (Mark T) × ℕ} ([], q.1) (ms, e) = cc in
                (ap (λ (z : List (Mark T) × ℕ). met upto id z.0) (sym same), ap (λ (z : List (Mark T) × ℕ). z.1) same);
          } in
          subst (λ a. Skims upto id (times f n at) a) (sym (went h)) (skims_folded xs 0 n at q (omega (arith, given xs _ y.0 y.1, y.2.1.0)) c (Continue q.1) last)
      skims_tried (Some x) y h went broke =
          let more = y.0.end - y.0.start - 1 in
          let b = broke x (steady xs at q c) h in
          subst (λ a. Skims upto id (times f n at) a) (sym b.2)
          (skims_folded xs (suc more) n at q (omega (arith, given xs _ y.0 y.1, y.2.1.0)) c (Break b.0) (skims_off (f q.1) (times f more) b.0 (times_void (puts_id upto id) upto f clear more) b.1))

module _ {T : Type 0} (F : venue.Form T) (m : List ℕ) (c : Pair) (s : Side) where
  -- the level at `at`, as the code goes over it
  module _ (at count : ℕ) (count-is : at + 10 ≤ length m → count ≡ count_in m (at + 10)) where
    level_ends_at : (ms : List (Mark T)) (e : ℕ) → level_at F m c s at ≡ Ok (ms, e) → (count ≡ count_in m (at + 10)) × (e ≡ at + (14 + count * order_width F)) × (e ≤ length m)
    level_ends_at ms e h =
        let l = level_inv F m c s at ms e h in
        let n = count-is (omega (arith, l.room)) in
        (n, l.end ∙ ap (λ i. at + (14 + i * order_width F)) (sym n), l.within)

    pub level_ends : (next : ℕ) → (at + (14 + count * order_width F) ≤ length m → next ≡ at + (14 + count * order_width F)) → Ends (level_at F m c s at) next
    level_ends next next-is = record { end = λ ms e h. let l = level_ends_at ms e h in next-is (omega (arith, l.1, l.2)) ∙ sym l.1 }

    module _ (upto : ℕ) (id : List ℕ) (place size ids : ℕ) (place_is : place ≡ id_offset F) (size_is : size ≡ order_width F) (ids-is : at + (14 + place) ≤ length m → ids ≡ at + (14 + place)) where
      level_met : (ms : List (Mark T)) (e : ℕ) → level_at F m c s at ≡ Ok (ms, e) → met upto id ms ≡ strided m upto id size count ids
      level_met ms e h =
          let l = level_inv F m c s at ms e h in
          let n = (level_ends_at ms e h).0 in
          let start : at + (14 + id_offset F) ≡ ids = ap (λ i. at + (14 + i)) (sym place_is) ∙ sym (ids-is (omega (arith, l.room))) in
          l.strides upto id ∙ ap (λ i. strided m upto id i (count_in m (at + 10)) (at + (14 + id_offset F))) (sym size_is) ∙ ap (λ i. strided m upto id size i (at + (14 + id_offset F))) (sym n) ∙ ap (strided m upto id size count) start

      pub level_skims_met : strided m upto id size count ids ≡ true → Skims upto id (level_at F m c s at) (Break true)
      level_skims_met h = record { says = λ ms e j. level_met ms e j ∙ h }

      pub level_skims_on : (next : ℕ) → strided m upto id size count ids ≡ false → (at + (14 + count * order_width F) ≤ length m → next ≡ at + (14 + count * order_width F)) → Skims upto id (level_at F m c s at) (Continue next)
      level_skims_on next h next-is = record { says = λ ms e j. (level_met ms e j ∙ h, (level_ends next next-is).end ms e j) }

  pub level_skims_past : (upto : ℕ) (id : List ℕ) (at : ℕ) → upto ≤ at → Skims upto id (level_at F m c s at) (Break false)
  level_skims_past upto id at h = record { says = λ ms e z. level_unmet F m c s upto id at ms e h z }

  -- a side, as the code goes into it
  module _ (p q k : ℕ) (q-is : p + 4 ≤ length m → q ≡ p + 4) (k-is : k ≡ count_in m p) where
    side_times : (ms : List (Mark T)) (e : ℕ) → side_at F m c s p ≡ Ok (ms, e) → times (level_at F m c s) k q ≡ Ok (ms, e)
    side_times ms e h =
        let i = side_inv F m c s p ms e h in
        ap (λ n. times (level_at F m c s) n q) k-is ∙ ap (times (level_at F m c s) (count_in m p)) (q-is i.0) ∙ i.1

    pub side_skims : (upto : ℕ) (id : List ℕ) (a : ControlFlow Bool ℕ) → Skims upto id (times (level_at F m c s) k q) a → Skims upto id (side_at F m c s p) a
    side_skims upto id a h = record { says = λ ms e j. h.says ms e (side_times ms e j) }

    pub side_ends : (r : ℕ) → Ends (times (level_at F m c s) k q) r → Ends (side_at F m c s p) r
    side_ends r h = record { end = λ ms e j. h.end ms e (side_times ms e j) }

-- Where blocks end: calls that go over one block each, in turn.
module _ {A F X : Type 0} (f : ℕ → Scan (List (Mark A))) (R : F × ℕ → X → F × ℕ → Type 0) (k : F) (turn : (at : ℕ) (x : X) (q : F × ℕ) → R (k, at) x q → Ends (f at) q.1 × (q.0 ≡ k)) where
  pub ends_folded : (xs : List X) (at : ℕ) (q : F × ℕ) → FoldsTo R (k, at) xs q → Ends (times f (length xs) at) q.1
  unfolding times
  ends_folded [] at q c = record {
    end = λ ms e z.
        let same : ◌≡◌ {A = List (Mark A) × ℕ} ([], at) (ms, e) = cc in
        sym (ap (λ (v : F × ℕ). v.1) c) ∙ ap (λ (v : List (Mark A) × ℕ). v.1) same;
  }
  ends_folded (x ∷ xs) at q c =
      let t = turn at x c.0 c.1 in
      let rest = ends_folded xs c.0.1 q (subst (λ (v : F × ℕ). FoldsTo R v xs q) {x = c.0} {y = (k, c.0.1)} (λ i. (t.1 i, c.0.1)) c.2) in
      record {
        end = λ ms e z.
            let j = seq_inv (f at) (times f (length xs)) ms e z in
            rest.end j.ys e (ap (times f (length xs)) (t.0.end j.xs j.mid j.first) ∙ j.then);
      }

-- A pair: its bytes, and then its sides.
record PairRead {T : Type 0} (F : venue.Form T) (m : List ℕ) (p : ℕ) (ms : List (Mark T)) (e : ℕ) : Type 0 where
  pair : Pair
  kept : pair.bytes ≡ field p 7 m
  within : p + 7 ≤ length m
  sides : List (Mark T)
  marks : ms ≡ Lists p pair ∷ sides
  both : Joined (side_at F m pair Bid (p + 7)) (side_at F m pair Offer) sides e

module _ {T : Type 0} (F : venue.Form T) (m : List ℕ) where
  pair_inv : (p : ℕ) (ms : List (Mark T)) (e : ℕ) → pair_at F m p ≡ Ok (ms, e) → PairRead F m p ms e
  unfolding pair_at
  pair_inv p ms e h =
      let i = then_inv (field_at m 7 pair_of p) _ (ms, e) h in
      let f = field_inv m 7 pair_of p i.0 i.1 i.2 in
      let j = seq_inv (Ok (Lists p i.0 ∷ [], i.1)) (sides_at F m i.0) ms e i.3 in
      let first = j.first in
      let same : ◌≡◌ {A = List (Mark T) × ℕ} (Lists p i.0 ∷ [], i.1) (j.xs, j.mid) = cc in
      let start : j.mid ≡ p + 7 = sym (ap (λ (z : List (Mark T) × ℕ). z.1) same) ∙ f.end in
      record {
        pair = i.0;
        kept = (pair_law.sound (field p 7 m) i.0 f.value).1;
        within = omega (arith, f.within, f.end);
        sides = j.ys;
        marks = j.both ∙ ap (λ (z : List (Mark T) × ℕ). z.0 ++ j.ys) (sym same);
        both = subst (λ q. Joined (side_at F m i.0 Bid q) (side_at F m i.0 Offer) j.ys e) start (seq_inv (side_at F m i.0 Bid j.mid) (side_at F m i.0 Offer) j.ys e j.then);
      }

  pub pair_ends : (p q o r : ℕ) → (p + 7 ≤ length m → q ≡ p + 7) → ((c : Pair) (s : Side) → Ends (side_at F m c s q) o) → ((c : Pair) (s : Side) → Ends (side_at F m c s o) r) → Ends (pair_at F m p) r
  pair_ends p q o r q-is bids offers = record {
    end = λ ms e h.
        let i = pair_inv p ms e h in
        let j = i.both in
        let mid = (bids i.pair Bid).end j.xs j.mid (ap (side_at F m i.pair Bid) (q-is i.within) ∙ j.first) in
        (offers i.pair Offer).end j.ys e (ap (side_at F m i.pair Offer) mid ∙ j.then);
  }

  -- the pairs stand behind the byte count and their number
  pairs_inv : (p : ℕ) (ms : List (Mark T)) (e : ℕ) → pairs_from F m p ≡ Ok (ms, e) → times (pair_at F m) (count_in m p) (p + 4) ≡ Ok (ms, e)
  unfolding pairs_from
  pairs_inv p ms e h =
      let i = then_inv (field_at m 4 (integer_of 4) p) _ (ms, e) h in
      let count = field_inv m 4 (integer_of 4) p i.0 i.1 i.2 in
      ap (λ n. times (pair_at F m) n (p + 4)) (sym (counted m p i.0 i.1 count)) ∙ ap (times (pair_at F m) i.0.value) (sym count.end) ∙ i.3

  guarded : {A : Type 0} (b : Bool) (x : Reading A) (y : MessageFault) (v : A) → cond b x (Err y) ≡ Ok v → x ≡ Ok v
  guarded true x y v h = h
  guarded false x y v h = no h

  snapshot_inv : (ms : List (Mark T)) (e : ℕ) → snapshot_of F m ≡ Ok (ms, e) → times (pair_at F m) (count_in m 7) 11 ≡ Ok (ms, e)
  unfolding snapshot_of
  snapshot_inv ms e h =
      let i = then_inv (field_at m 6 (integer_of 6) 1) _ (ms, e) h in
      let size = field_inv m 6 (integer_of 6) 1 i.0 i.1 i.2 in
      let j = then_inv (pairs_from F m i.1) _ (ms, e) (guarded (eqb i.0.value (length m - i.1)) _ _ (ms, e) i.3) in
      pairs_inv 7 ms e (ap (pairs_from F m) (sym size.end) ∙ j.2 ∙ guarded (eqb j.1 (length m)) _ _ (ms, e) j.3)

  module _ (upto : ℕ) (pair : List ℕ) where
    -- only its first mark lists a pair
    pair_listed : (p : ℕ) (ms : List (Mark T)) (e : ℕ) → pair_at F m p ≡ Ok (ms, e) → (listed upto pair ms ≡ (ltb p upto && bytes_eq (field p 7 m) pair)) × (p ≤ e)
    pair_listed p ms e h =
        let i = pair_inv p ms e h in
        let j = i.both in
        let a = side_unlisted F m i.pair Bid p upto pair (p + 7) j.xs j.mid (omega arith) j.first in
        let b = side_unlisted F m i.pair Offer p upto pair j.mid j.ys e a.1 j.then in
        let none : listed upto pair i.sides ≡ false = ap (listed upto pair) j.both ∙ among_later (lists_pair upto pair) j.xs j.ys a.0 ∙ b.0 in
        (ap (listed upto pair) i.marks ∙ ap (λ b. (ltb p upto && bytes_eq i.pair.bytes pair) || b) none ∙ or-false (ltb p upto && bytes_eq i.pair.bytes pair) ∙ ap (λ bs. ltb p upto && bytes_eq bs pair) i.kept, b.1)

    pair_unlisted : Void (lists_pair upto pair) upto (pair_at F m)
    pair_unlisted p ms e l h =
        let i = pair_listed p ms e h in
        (i.0 ∙ ap (λ b. b && bytes_eq (field p 7 m) pair) (le-ltb p upto l), omega (arith, i.1))

    -- n pairs from `start`, of which i are passed: what is said of those left is said of all
    module _ (n start i at : ℕ) where
      abbrev pub ListsLeft : Type 0
      ListsLeft = (r : Bool) → ListsPair upto pair (times (pair_at F m) (n - i) at) r → ListsPair upto pair (times (pair_at F m) n start) r

      pub pairs_done : n ≤ i → ListsLeft → ListsPair upto pair (times (pair_at F m) n start) false
      pairs_done l k = k false record {
        found = λ ms e z.
            let over = times_over (pair_at F m) n i at l in
            let same : ◌≡◌ {A = List (Mark T) × ℕ} ([], at) (ms, e) = cc in
            ap (λ (z : List (Mark T) × ℕ). listed upto pair z.0) same;
      }

      pub pairs_past : upto ≤ at → ListsLeft → ListsPair upto pair (times (pair_at F m) n start) false
      pairs_past h k = k false record { found = λ ms e z. sym (times_void (lists_pair upto pair) upto (pair_at F m) pair_unlisted (n - i) at ms e h z).0 }

      -- the pair at `at`, as the code goes over it
      module _ (l : i < n) (before : at < upto) (r : Bool) (is : r ≡ bytes_eq (field at 7 m) pair) where
        first_listed : (ms : List (Mark T)) (e : ℕ) → times (pair_at F m) (n - i) at ≡ Ok (ms, e) → (j : Joined (pair_at F m at) (times (pair_at F m) (n - (i + 1))) ms e) × (listed upto pair j.xs ≡ r)
        first_listed ms e z =
            let j = seq_inv (pair_at F m at) (times (pair_at F m) (n - (i + 1))) ms e (sym (times_more (pair_at F m) n i at l) ∙ z) in
            (j, (pair_listed at j.xs j.mid j.first).0 ∙ ap (λ b. b && bytes_eq (field at 7 m) pair) (lt-ltb at upto before) ∙ sym is)

        pub pairs_here : r ≡ true → ListsLeft → ListsPair upto pair (times (pair_at F m) n start) true
        pairs_here h k = k true record {
          found = λ ms e z.
              let f = first_listed ms e z in
              sym (ap (listed upto pair) f.0.both ∙ among_sooner (lists_pair upto pair) f.0.xs f.0.ys (f.1 ∙ h));
        }

        pub pairs_next : (next : ℕ) → r ≡ false → Ends (pair_at F m at) next → ListsLeft → (a : Bool) → ListsPair upto pair (times (pair_at F m) (n - (i + 1)) next) a → ListsPair upto pair (times (pair_at F m) n start) a
        pairs_next next h ends k a rest = k a record {
          found = λ ms e z.
              let f = first_listed ms e z in
              let j = f.0 in
              rest.found j.ys e (ap (times (pair_at F m) (n - (i + 1))) (ends.end j.xs j.mid j.first) ∙ j.then)
              ∙ sym (ap (listed upto pair) j.both ∙ among_later (lists_pair upto pair) j.xs j.ys (f.1 ∙ h));
        }

    pub snapshot_listed : (k : ℕ) (r : Bool) → k ≡ count_in m 7 → ListsPair upto pair (times (pair_at F m) k 11) r → ListsPair upto pair (snapshot_of F m) r
    snapshot_listed k r k-is h = record { found = λ ms e j. h.found ms e (ap (λ n. times (pair_at F m) n 11) k-is ∙ snapshot_inv ms e j) }
