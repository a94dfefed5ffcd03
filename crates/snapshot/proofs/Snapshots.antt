-- A snapshot is read exactly where it is laid out, and refused exactly where it stops.
use Rattle.std.proofs.Common.{◌≡◌, ℕ, ◌+◌, ◌-◌, ◌<◌, ◌≤◌, Bool, true, false, cond, eqb, ◌⊎◌, List, [], ◌∷◌, ◌++◌, length, get_or, drop, Ok, Err, sym, refl, ap, ◌∙◌, subst, inl, inr, ⊎_elim, append-nil, arith, length-append, length-drop, drop_of_length-le, eq-eqb, ne_eqb, eqb-true}
use borrow.Author.Tests.{eqb-false}
use Rattle.fields.specs.Values.{Pair, Price}
use Rattle.fields.specs.declared.integers.Integer.{Integer}
use Rattle.book.specs.Ladder.{OrderId}
use Rattle.book.specs.declared.order.Side.{Side}
use Rattle.book.specs.declared.order.Side.TheVariants.{Bid, Offer}
use Rattle.readers.specs.Values.{pair_of, label_of, integer_of, LabelIs, IntegerIs}
use Rattle.readers.specs.Laws.{ReaderLaws}
use Rattle.venue.specs.Form as venue
use Rattle.message.specs.declared.fault.MessageFault.{MessageFault}
use Rattle.message.specs.declared.fault.MessageFault.TheVariants.{Miscounted}
use Rattle.message.specs.Reading.{value_at}
use Rattle.snapshot.specs.declared.mark.Mark.{Mark}
use Rattle.snapshot.specs.declared.mark.Mark.TheVariants.{Lists, Puts}
use Rattle.snapshot.specs.Scanning.{Scan, ◌▸◌, ◌⨟◌, field_at, tail_then}
use Rattle.snapshot.specs.Snapshot.{whole_order, count_read, order_at, level_at, side_at, pair_at, pairs_from, snapshot_of}
use Rattle.snapshot.specs.Laid.{Here, PairsLaid, CountedLaid}
use Rattle.snapshot.specs.Faults.{Located, Part, in_form, no_bytes, ◌⟫◌, count, order_part, level_part, side_part, pair_part, pairs_part, Sized, CountedStops, at_size, at_number, at_pairs, at_end}
use Rattle.snapshot.proofs.Exact.{then_inv, after}
use Rattle.snapshot.proofs.Stopping.{Follows, stop_inv, follows_from, follows_then, follows_done, follows_here, follows_field, follows_tail, follows_both, follows_times, follows_choice, follows_some}

module _ (R : ReaderLaws) {T : Type 0} (F : venue.Form T) (m : List ℕ) where
  follows_count : Follows m (count_read F m) count
  follows_count = follows_field m (R.integer 4)

  -- the id, with the offset where it begins, and what is put there
  follows_id : {A : Type 0} (S : ℕ → OrderId → ℕ → Scan A) (Q : ℕ → OrderId → Part A) → ((at : ℕ) (i : OrderId) → Follows m (S at i) (Q at i))
      → Follows m (λ p. field_at m 15 (label_of 15) p ▸ S p) (no_bytes Here ⟫ λ at. in_form 15 (LabelIs 15) ⟫ Q at)
  follows_id S Q s = follows_here m (λ at p. field_at m 15 (label_of 15) p ▸ S at) (λ at. in_form 15 (LabelIs 15) ⟫ Q at)
      (λ at. follows_then m _ (λ _. S at) _ (Q at) (follows_field m (R.label 15)) (λ _. s at))

  pub follows_order : (c : Pair) (s : Side) (v : Price) → Follows m (order_at F m c s v) (order_part F c s v)
  unfolding order_at
  follows_order c s v = follows_then m _ _ _ _ (follows_field m R.amount) (λ _ a. follows_choice m F.order_tail_first _ _ _ _
      (follows_then m _ _ _ _ (follows_tail m F) (λ _ t. follows_id _ _ (λ at i. follows_done m (Puts at (whole_order c s v a i t) ∷ []))))
      (follows_id (λ at i r. tail_then F m r ▸ λ t e. Ok (Puts at (whole_order c s v a i t) ∷ [], e)) _
      (λ at i. follows_then m _ _ _ _ (follows_tail m F) (λ _ t. follows_done m (Puts at (whole_order c s v a i t) ∷ [])))))

  pub follows_level : (c : Pair) (s : Side) → Follows m (level_at F m c s) (level_part F c s)
  unfolding level_at
  follows_level c s = follows_then m _ _ _ _ (follows_field m R.price) (λ _ v. follows_from m _ _ _ _ _ follows_count
      (λ q k. follows_some m k.value q _ _ (follows_times m _ _ (follows_order c s v) k.value)))

  pub follows_side : (c : Pair) (s : Side) → Follows m (side_at F m c s) (side_part F c s)
  unfolding side_at
  follows_side c s = follows_then m _ _ _ _ follows_count (λ _ k. follows_times m _ _ (follows_level c s) k.value)

  pub follows_pair : Follows m (pair_at F m) (pair_part F)
  unfolding pair_at
  follows_pair = follows_here m (λ at p. field_at m 7 pair_of p ▸ λ c q. Ok (Lists at c ∷ [], q) ⨟ λ u. side_at F m c Bid u ⨟ λ r. side_at F m c Offer r) _
      (λ at. follows_then m _ _ _ _ (follows_field m R.pair) (λ _ c. follows_both m _ _ _ _ (follows_done m (Lists at c ∷ []))
      (follows_both m _ _ _ _ (follows_side c Bid) (follows_side c Offer))))

  pub follows_pairs : Follows m (pairs_from F m) (pairs_part F)
  unfolding pairs_from
  follows_pairs = follows_then m _ _ _ _ follows_count (λ _ k. follows_times m _ _ follows_pair k.value)

tested : {A : Type 0} (b : Bool) (x : Scan A) (f : MessageFault) (y : A × ℕ) → cond b x (Err f) ≡ Ok y → (b ≡ true) × (x ≡ Ok y)
tested true x f y h = (refl, h)
tested false x f y h = let z : ◌≡◌ {A = ℕ} 0 1 = cc in absurd (omega arith)

refused : {A : Type 0} (b : Bool) (x : Scan A) (f g : MessageFault) → cond b x (Err f) ≡ Err g → ((b ≡ true) × (x ≡ Err g)) ⊎ ((b ≡ false) × (g ≡ f))
refused true x f g h = inl (refl, h)
refused false x f g h = inr (refl, (cc))

below : (a b : ℕ) → a ≤ b → (a ≡ b → ⊥) → a < b
below a b h n = omega arith

headed : (m : List ℕ) → 0 < length m → m ≡ get_or m 0 0 ∷ drop 1 m
headed [] h = absurd (omega (arith, h))
headed (x ∷ xs) h = refl

-- the number of bytes, as it is read at offset 1
module _ (R : ReaderLaws) (m : List ℕ) where
  abbrev size_read : Scan (Integer 6)
  size_read = field_at m 6 (integer_of 6) 1

  read_sized : (k : Integer 6) (p : ℕ) → size_read ≡ Ok (k, p) → 1 ≤ length m → (p ≡ 7) × (7 ≤ length m) × Sized m k.value (drop 7 m)
  read_sized k p h some =
      let g = (follows_field m (R.integer 6)).exact.sound 1 k p h in
      let seven : p ≡ 7 = g.end ∙ ap (λ n. 1 + n) ((R.integer 6).long g.bytes k g.laid) in (
        seven,
        subst (λ n. n ≤ length m) seven (g.inside some),
        record {
          letter = get_or m 0 0;
          size = g.bytes;
          count = k;
          parts = headed m some ∙ ap (λ x. get_or m 0 0 ∷ x) (g.split ∙ ap (λ n. g.bytes ++ drop n m) seven);
          counted = g.laid;
          value = refl;
        },
      )

  sized_read : (n : ℕ) (body : List ℕ) (s : Sized m n body) → (size_read ≡ Ok (s.count, 7)) × (drop 7 m ≡ body) × (length m ≡ 7 + length body)
  sized_read n body s =
      let six : length s.size ≡ 6 = (R.integer 6).long s.size s.count s.counted in
      let total : length m ≡ 7 + length body = omega (arith, ap length s.parts, length-append s.size body) in
      let start : drop 1 m ≡ s.size ++ body = ap (drop 1) s.parts in (
        (follows_field m (R.integer 6)).exact.complete 1 s.size body s.count (omega (arith, total)) start s.counted ∙ ap (λ n. Ok (s.count, 1 + n)) six,
        ap (λ n. drop (1 + n) m) (sym six) ∙ after m 1 s.size body start,
        total,
      )

-- a message that has no bytes has no number
size_some : (R : ReaderLaws) (m : List ℕ) (k : Integer 6) (p : ℕ) → size_read R m ≡ Ok (k, p) → 1 ≤ length m
unfolding field_at value_at
size_some R [] k p h = let z : ◌≡◌ {A = ℕ} 0 1 = cc in absurd (omega arith)
size_some R (x ∷ m) k p h = omega arith

size_stopped : (R : ReaderLaws) (m : List ℕ) (f : MessageFault) → size_read R m ≡ Err f → (in_form 6 (IntegerIs 6)).stops 1 (drop 1 m) f
unfolding field_at value_at
size_stopped R [] f h = inl (omega arith, (cc))
size_stopped R (x ∷ m) f h = (follows_field (x ∷ m) (R.integer 6)).stopped 1 f (omega arith) h

size_stopping : (R : ReaderLaws) (m : List ℕ) (f : MessageFault) → (in_form 6 (IntegerIs 6)).stops 1 (drop 1 m) f → size_read R m ≡ Err f
unfolding field_at value_at
size_stopping R [] f t = ⊎_elim (λ x. ap Err (sym x.1)) (λ x. absurd (omega (arith, x.0))) t
size_stopping R (x ∷ m) f t = (follows_field (x ∷ m) (R.integer 6)).stopping 1 f (omega arith) t

module _ (R : ReaderLaws) {T : Type 0} (F : venue.Form T) (m : List ℕ) where
  -- the pairs were read: up to the end, or bytes are left over
  abbrev to_end : List (Mark T) → ℕ → Scan (List (Mark T))
  to_end ms e = cond (eqb e (length m)) (Ok (ms, e)) (Err (Miscounted e))

  -- the number of bytes was read
  abbrev behind : Integer 6 → ℕ → Scan (List (Mark T))
  behind k p = cond (eqb k.value (length m - p)) (pairs_from F m p ▸ to_end) (Err (Miscounted 1))

  resized : (k : ℕ) (body : List ℕ) → eqb k (length m - 7) ≡ true → drop 7 m ≡ body → Sized m k (drop 7 m) → Sized m (length body) body
  resized k body h e s = subst (λ n. Sized m n body) (eqb-true k (length m - 7) h ∙ sym (length-drop 7 m) ∙ ap length e) (subst (Sized m k) e s)

  pairs_sound : (ms : List (Mark T)) (e : ℕ) → pairs_from F m 7 ▸ to_end ≡ Ok (ms, e) → PairsLaid F 7 (drop 7 m) ms × (e ≡ length m)
  pairs_sound ms e h =
      let j = then_inv (pairs_from F m 7) to_end (ms, e) h in
      let u = tested (eqb j.1 (length m)) (Ok (j.0, j.1)) (Miscounted j.1) (ms, e) j.3 in
      let same : ◌≡◌ {A = List (Mark T) × ℕ} (j.0, j.1) (ms, e) = cc in
      let k = (follows_pairs R F m).exact.sound 7 j.0 j.1 j.2 in
      let full : j.1 ≡ length m = eqb-true j.1 (length m) u.0 in
      let none : drop j.1 m ≡ [] = drop_of_length-le m (omega (arith, full)) in
      let body : drop 7 m ≡ k.bytes = k.split ∙ ap (λ x. k.bytes ++ x) none ∙ append-nil k.bytes in (
        subst (PairsLaid F 7 (drop 7 m)) (ap (λ (x : List (Mark T) × ℕ). x.0) same) (subst (λ b. PairsLaid F 7 b j.0) (sym body) k.laid),
        sym (ap (λ (x : List (Mark T) × ℕ). x.1) same) ∙ full,
      )

  behind_sound : (k : Integer 6) (ms : List (Mark T)) (e : ℕ) → Sized m k.value (drop 7 m) → behind k 7 ≡ Ok (ms, e) → CountedLaid F m ms × (e ≡ length m)
  behind_sound k ms e s h =
      let t = tested (eqb k.value (length m - 7)) (pairs_from F m 7 ▸ to_end) (Miscounted 1) (ms, e) h in
      let z = resized k.value (drop 7 m) t.0 refl s in
      let l = pairs_sound ms e t.1 in
      (record { letter = z.letter; size = z.size; body = drop 7 m; count = z.count; parts = z.parts; counted = z.counted; agrees = z.value; listed = l.0 }, l.1)

  pub counted_sound : (ms : List (Mark T)) (e : ℕ) → snapshot_of F m ≡ Ok (ms, e) → CountedLaid F m ms × (e ≡ length m)
  unfolding snapshot_of
  counted_sound ms e h =
      let i = then_inv (size_read R m) behind (ms, e) h in
      let r = read_sized R m i.0 i.1 i.2 (size_some R m i.0 i.1 i.2) in
      behind_sound i.0 ms e r.2 (ap (behind i.0) (sym r.0) ∙ i.3)

  -- what is read where the number of bytes is right
  agreed : (body : List ℕ) → Sized m (length body) body → snapshot_of F m ≡ pairs_from F m 7 ▸ to_end
  unfolding snapshot_of
  agreed body s =
      let r = sized_read R m (length body) body s in
      let right : s.count.value ≡ length m - 7 = omega (arith, s.value, r.2) in
      ap (λ x. x ▸ behind) r.0 ∙ ap (λ b. cond b (pairs_from F m 7 ▸ to_end) (Err (Miscounted 1))) (eq-eqb s.count.value (length m - 7) right)

  pub counted_complete : (ms : List (Mark T)) → CountedLaid F m ms → snapshot_of F m ≡ Ok (ms, length m)
  counted_complete ms l =
      let s : Sized m (length l.body) l.body = record { letter = l.letter; size = l.size; count = l.count; parts = l.parts; counted = l.counted; value = l.agrees } in
      let r = sized_read R m (length l.body) l.body s in
      let read = (follows_pairs R F m).exact.complete 7 l.body [] ms (omega (arith, r.2)) (r.1 ∙ sym (append-nil l.body)) l.listed in
      let full : 7 + length l.body ≡ length m = sym r.2 in
      agreed l.body s ∙ ap (λ x. x ▸ to_end) (read ∙ ap (λ n. Ok (ms, n)) full) ∙ ap (λ b. cond b (Ok (ms, length m)) (Err (Miscounted (length m)))) (eq-eqb (length m) (length m) refl)

  -- a message lays out one listing at most
  pub one_listing : (ms ns : List (Mark T)) → CountedLaid F m ms → CountedLaid F m ns → ms ≡ ns
  one_listing ms ns a b =
      let h = counted_complete ms a in
      let k = counted_complete ns b in
      let same : ◌≡◌ {A = List (Mark T) × ℕ} (ms, length m) (ns, length m) = cc in
      ap (λ (x : List (Mark T) × ℕ). x.0) same

  end_stops : (ms : List (Mark T)) (e : ℕ) (f : MessageFault) → Sized m (length (drop 7 m)) (drop 7 m) → 7 ≤ length m → pairs_from F m 7 ≡ Ok (ms, e) → to_end ms e ≡ Err f → CountedStops F m f
  end_stops ms e f s o h t =
      let g = (follows_pairs R F m).exact.sound 7 ms e h in
      ⊎_elim
      (λ x. let y = x.1 in let z : ◌≡◌ {A = ℕ} 0 1 = cc in absurd (omega arith))
      (λ x.
      let left : 0 < length (drop e m) = omega (arith, length-drop e m, below e (length m) (g.inside o) (eqb-false e (length m) x.0)) in
      subst (CountedStops F m) (ap Miscounted (sym g.end) ∙ sym x.1) (at_end g.bytes (drop e m) ms (subst (λ b. Sized m (length b) b) g.split s) g.laid left))
      (refused (eqb e (length m)) (Ok (ms, e)) (Miscounted e) f t)

  behind_stops : (k : Integer 6) (f : MessageFault) → Sized m k.value (drop 7 m) → 7 ≤ length m → behind k 7 ≡ Err f → CountedStops F m f
  behind_stops k f s o h = ⊎_elim
      (λ x.
      let z = resized k.value (drop 7 m) x.0 refl s in
      ⊎_elim
      (λ e. at_pairs (drop 7 m) f z ((follows_pairs R F m).stopped 7 f o e))
      (λ i. end_stops i.0 i.1 f z o i.2 i.3)
      (stop_inv (pairs_from F m 7) to_end f x.1))
      (λ x. subst (CountedStops F m) (sym x.1) (at_number k.value (drop 7 m) s (λ e. eqb-false k.value (length m - 7) x.0 (e ∙ length-drop 7 m))))
      (refused (eqb k.value (length m - 7)) (pairs_from F m 7 ▸ to_end) (Miscounted 1) f h)

  -- what is refused stops so
  pub counted_stopped : (f : MessageFault) → snapshot_of F m ≡ Err f → CountedStops F m f
  unfolding snapshot_of
  counted_stopped f h = ⊎_elim
      (λ e. at_size f (size_stopped R m f e))
      (λ i.
      let r = read_sized R m i.0 i.1 i.2 (size_some R m i.0 i.1 i.2) in
      behind_stops i.0 f r.2 r.1 (ap (behind i.0) (sym r.0) ∙ i.3))
      (stop_inv (size_read R m) behind f h)

  pairs_stopping : (body : List ℕ) (f : MessageFault) → Sized m (length body) body → (pairs_part F).stops 7 body f → pairs_from F m 7 ≡ Err f
  pairs_stopping body f s t =
      let r = sized_read R m (length body) body s in
      (follows_pairs R F m).stopping 7 f (omega (arith, r.2)) (subst (λ b. (pairs_part F).stops 7 b f) (sym r.1) t)

  -- what stops is refused so
  pub counted_stopping : (f : MessageFault) → CountedStops F m f → snapshot_of F m ≡ Err f
  unfolding snapshot_of
  counted_stopping f (at_size _ t) = ap (λ x. x ▸ behind) (size_stopping R m f t)
  counted_stopping _ (at_number k body s n) =
      let r = sized_read R m k body s in
      let wrong : s.count.value ≡ length m - 7 → ⊥ = λ e. n (omega (arith, e, s.value, r.2)) in
      ap (λ x. x ▸ behind) r.0 ∙ ap (λ b. cond b (pairs_from F m 7 ▸ to_end) (Err (Miscounted 1))) (ne_eqb s.count.value (length m - 7) wrong)
  counted_stopping f (at_pairs body _ s t) = agreed body s ∙ ap (λ x. x ▸ to_end) (pairs_stopping body f s t)
  counted_stopping _ (at_end b c ms s l some) =
      let r = sized_read R m (length (b ++ c)) (b ++ c) s in
      let short : 7 + length b ≡ length m → ⊥ = λ e. omega (arith, e, r.2, length-append b c, some) in
      agreed (b ++ c) s ∙ ap (λ x. x ▸ to_end) ((follows_pairs R F m).exact.complete 7 b c ms (omega (arith, r.2)) r.1 l)
      ∙ ap (λ t. cond t (Ok (ms, 7 + length b)) (Err (Miscounted (7 + length b)))) (ne_eqb (7 + length b) (length m) short)

  -- every message is one or the other, and not both, and stops with one fault
  pub laid_or_stopped : ((ms : List (Mark T)) × CountedLaid F m ms) ⊎ ((f : MessageFault) × CountedStops F m f)
  laid_or_stopped = by (snapshot_of F m) refl
    where
      by : (x : Scan (List (Mark T))) → snapshot_of F m ≡ x → ((ms : List (Mark T)) × CountedLaid F m ms) ⊎ ((f : MessageFault) × CountedStops F m f)
      by (Ok y) h = inl (y.0, (counted_sound y.0 y.1 h).0)
      by (Err f) h = inr (f, counted_stopped f h)

  pub never_both : (ms : List (Mark T)) (f : MessageFault) → CountedLaid F m ms → CountedStops F m f → ⊥
  never_both ms f l s =
      let a = counted_complete ms l in
      let b = counted_stopping f s in
      let z : ◌≡◌ {A = ℕ} 0 1 = cc in
      omega arith

  pub one_fault : (f g : MessageFault) → CountedStops F m f → CountedStops F m g → f ≡ g
  one_fault f g s t =
      let a = counted_stopping f s in
      let b = counted_stopping g t in
      cc

  -- the fault of a snapshot is 25 or 23 at an offset
  pub stops_located : (f : MessageFault) → CountedStops F m f → Located f
  stops_located f (at_size _ t) = (follows_field m (R.integer 6)).located 1 f (size_stopping R m f t)
  stops_located _ (at_number k body s n) = (1, inl refl)
  stops_located f (at_pairs body _ s t) = (follows_pairs R F m).located 7 f (pairs_stopping body f s t)
  stops_located _ (at_end b c ms s l some) = (7 + length b, inl refl)
