-- Messages are read exactly where they are laid out.
use Rattle.std.proofs.Common.{◌≡◌, ℕ, ◌≤◌, Bool, true, false, cond, ltb, ◌⊎◌, List, [], length, get_or, Some, None, Ok, Err, codes, Option, sym, refl, ap, ◌∙◌, subst, inl, inr, ⊎_elim, arith, length-append, ltb-true, ne_eqb}
use Rattle.std.proofs.lemmas.Bool.{cases_eq, cases_Bool, ltb-false, le-ltb, true≢false}
use Rattle.std.specs.Str.{bytes_eq}
use Rattle.book.specs.Orderly.{bytes_same, same_bytes}
use Rattle.readers.proofs.Together.{reader_laws}
use Rattle.readers.specs.Lawful.{integer_law}
use Rattle.venue.specs.Form as venue
use Rattle.message.specs.declared.fault.MessageFault.{MessageFault}
use Rattle.message.specs.declared.fault.MessageFault.TheVariants.{NoLetter, WrongLength, Repeated}
use Rattle.message.specs.Reading.{Reading, ◌▷◌}
use Rattle.message.specs.Orders.{new_of, modify_of, cancel_of}
use Rattle.message.proofs.Lawful.{layout_laws}
use Rattle.snapshot.specs.declared.mark.Mark.{Mark}
use Rattle.snapshot.specs.Scanning.{Scan}
use Rattle.snapshot.specs.Snapshot.{snapshot_of}
use Rattle.snapshot.specs.Laid.{CountedLaid}
use Rattle.snapshot.specs.Faults.{CountedStops}
use Rattle.snapshot.specs.Repeats.{first_repeat, Distinct, RepeatAt}
use Rattle.snapshot.proofs.Snapshots.{counted_sound, counted_complete, counted_stopped}
use Rattle.snapshot.proofs.Repeating.{none_distinct, distinct_none, some_repeat}
use Rattle.apply.specs.declared.messages.Message.{Message}
use Rattle.apply.specs.Said.{summary, summed, Said, new, modify, cancel, listing, blank, trade, volume, LaidOut, Blank, is_blank_message, unrepeated, listed, snapshot_said, message_of}
use Rattle.apply.specs.Reads.{Exactly, Refused, SnapshotRefused, Lettered, MessageLaws}

not_same : (xs ys : List ℕ) → (xs ≡ ys → ⊥) → bytes_eq xs ys ≡ false
not_same xs ys n = ⊎_elim (λ e. absurd (n (bytes_same xs ys e))) (λ e. e) (cases_Bool (bytes_eq xs ys))

or_neither : {P Q : Type 0} → P ⊎ (P → ⊥) → Q ⊎ (Q → ⊥) → (P ⊎ Q) ⊎ ((P ⊎ Q) → ⊥)
or_neither (inl p) q = inl (inl p)
or_neither (inr n) (inl q) = inl (inr q)
or_neither (inr n) (inr k) = inr (⊎_elim n k)

-- a reading that gives a message gave what the message says
carried : {A T : Type 0} (x : Reading A) (f : A → Said T) (s : Said T) → (x ▷ λ v. Ok (f v)) ≡ Ok s → (v : A) × (x ≡ Ok v) × (f v ≡ s)
carried (Ok v) f s h = let e : f v ≡ s = cc in (v, refl, e)
carried (Err e) f s h = absurd cc

faulted : {A T : Type 0} (x : Reading A) (f : A → Said T) (e : MessageFault) → (x ▷ λ v. Ok (f v)) ≡ Err e → x ≡ Err e
faulted (Ok v) f e h = absurd cc
faulted (Err d) f e h = let z : d ≡ e = cc in ap Err z

module _ {T : Type 0} (F : venue.Form T) (m : List ℕ) where
  -- the letters decide
  by_new : get_or m 0 0 ≡ 78 → message_of F m ≡ (new_of F m ▷ λ o. Ok (new o))
  unfolding message_of
  by_new h = rw h

  by_modify : get_or m 0 0 ≡ 77 → message_of F m ≡ (modify_of F m ▷ λ x. Ok (modify x))
  unfolding message_of
  by_modify h = rw h

  by_cancel : get_or m 0 0 ≡ 88 → message_of F m ≡ (cancel_of m ▷ λ x. Ok (cancel x))
  unfolding message_of
  by_cancel h = rw h

  pub by_snapshot : get_or m 0 0 ≡ 83 → message_of F m ≡ snapshot_said F m
  unfolding message_of
  by_snapshot h = rw h

  by_trade : get_or m 0 0 ≡ 84 → message_of F m ≡ Ok trade
  unfolding message_of
  by_trade h = rw h

  by_volume : get_or m 0 0 ≡ 86 → message_of F m ≡ Ok volume
  unfolding message_of
  by_volume h = rw h

  by_none : (Lettered F m → ⊥) → message_of F m ≡ Err NoLetter
  unfolding message_of
  by_none n =
      let a = ne_eqb (get_or m 0 0) 78 (λ e. n (inl e)) in
      let b = ne_eqb (get_or m 0 0) 77 (λ e. n (inr (inl e))) in
      let c = ne_eqb (get_or m 0 0) 88 (λ e. n (inr (inr (inl e)))) in
      let d = ne_eqb (get_or m 0 0) 83 (λ e. n (inr (inr (inr (inl e))))) in
      let e = ne_eqb (get_or m 0 0) 84 (λ e. n (inr (inr (inr (inr (inl e)))))) in
      let g = ne_eqb (get_or m 0 0) 86 (λ e. n (inr (inr (inr (inr (inr e)))))) in
      rw (a, b, c, d, e, g)

  -- the first byte is one of the letters, or none
  lettered : Lettered F m ⊎ (Lettered F m → ⊥)
  lettered =
      let c = get_or m 0 0 in
      or_neither (cases_eq c 78) (or_neither (cases_eq c 77) (or_neither (cases_eq c 88) (or_neither (cases_eq c 83) (or_neither (cases_eq c 84) (cases_eq c 86)))))

  -- a counted snapshot
  counted : (x : Scan (List (Mark T))) (s : Said T) → snapshot_of F m ≡ x → listed F m x ≡ Ok s → (ms : List (Mark T)) × (s ≡ listing ms) × CountedLaid F m ms × Distinct ms
  counted (Err f) s e h = absurd cc
  counted (Ok y) s e h = by (first_repeat [] y.0) refl h
    where
      by : (o : Option ℕ) → first_repeat [] y.0 ≡ o → unrepeated F m y.0 o ≡ Ok s → (ms : List (Mark T)) × (s ≡ listing ms) × CountedLaid F m ms × Distinct ms
      by None r h = let same : listing y.0 ≡ s = cc in (y.0, sym same, (counted_sound reader_laws F m y.0 y.1 e).0, none_distinct y.0 r)
      by (Some p) r h = absurd cc

  stopped : (x : Scan (List (Mark T))) (f : MessageFault) → snapshot_of F m ≡ x → listed F m x ≡ Err f
      → CountedStops F m f ⊎ ((ms : List (Mark T)) × (p : ℕ) × CountedLaid F m ms × RepeatAt ms p × (f ≡ Repeated p))
  stopped (Err g) f e h = let same : g ≡ f = cc in inl (counted_stopped reader_laws F m f (e ∙ ap Err same))
  stopped (Ok y) f e h = by (first_repeat [] y.0) refl h
    where
      by : (o : Option ℕ) → first_repeat [] y.0 ≡ o → unrepeated F m y.0 o ≡ Err f
          → CountedStops F m f ⊎ ((ms : List (Mark T)) × (p : ℕ) × CountedLaid F m ms × RepeatAt ms p × (f ≡ Repeated p))
      by None r h = absurd cc
      by (Some p) r h = let same : Repeated p ≡ f = cc in inr (y.0, p, (counted_sound reader_laws F m y.0 y.1 e).0, some_repeat y.0 p r, sym same)

  -- what a snapshot says: its length, blank or counted
  snapshot_sound : (s : Said T) → get_or m 0 0 ≡ 83 → snapshot_said F m ≡ Ok s → LaidOut F m s
  unfolding snapshot_said
  snapshot_sound s c h = by (ltb (length m) 7) (is_blank_message m) refl h
    where
      by : (a b : Bool) → is_blank_message m ≡ b → ◌≡◌ {A = Reading (Said T)} (cond a (Err WrongLength) (cond b (Ok blank) (listed F m (snapshot_of F m)))) (Ok s) → LaidOut F m s
      by true b e h = absurd cc
      by false true e h = let same : blank ≡ s = cc in subst (LaidOut F m) same (bytes_same m (codes "S     0") e)
      by false false e h = let k = counted (snapshot_of F m) s refl h in subst (LaidOut F m) (sym k.1) (c, k.2, k.3)

  snapshot_refused : (f : MessageFault) → snapshot_said F m ≡ Err f → SnapshotRefused F m f
  unfolding snapshot_said
  snapshot_refused f h = by (ltb (length m) 7) (is_blank_message m) refl refl h
    where
      by : (a b : Bool) → ltb (length m) 7 ≡ a → is_blank_message m ≡ b → ◌≡◌ {A = Reading (Said T)} (cond a (Err WrongLength) (cond b (Ok blank) (listed F m (snapshot_of F m)))) (Err f) → SnapshotRefused F m f
      by true b d e h = let same : WrongLength ≡ f = cc in inl (ltb-true (length m) 7 d, sym same)
      by false true d e h = absurd cc
      by false false d e h = inr (ltb-false (length m) 7 d, (λ k. true≢false (sym (same_bytes m (codes "S     0") k) ∙ e)), stopped (snapshot_of F m) f refl h)

  blank_read : Blank m → message_of F m ≡ Ok blank
  unfolding message_of snapshot_said
  blank_read h = rw h

  -- a counted snapshot is no blank one: it has a number of pairs
  counted_long : (ms : List (Mark T)) → CountedLaid F m ms → 11 ≤ length m
  counted_long ms l =
      let count = l.listed in
      let size = (integer_law 6).long l.size l.count l.counted in
      let four = (integer_law 4).long count.1 count.0 count.4 in
      let a = ap length l.parts in
      let b = length-append l.size l.body in
      let c = ap length count.3 in
      let d = length-append count.1 count.2 in
      omega arith

  counted_said : (ms : List (Mark T)) → CountedLaid F m ms → Distinct ms → snapshot_said F m ≡ Ok (listing ms)
  unfolding snapshot_said
  counted_said ms l d =
      let long = counted_long ms l in
      let a : ltb (length m) 7 ≡ false = le-ltb (length m) 7 (omega arith) in
      let b : is_blank_message m ≡ false = not_same m (codes "S     0") (λ e. let z = ap length e in omega arith) in
      let r = counted_complete reader_laws F m ms l in
      let n = distinct_none ms d in
      rw (a, b, r, n)

  -- what is laid out is read
  pub complete : (s : Said T) → LaidOut F m s → message_of F m ≡ Ok s
  complete (new o) l = by_new l.0 ∙ ap (λ x. x ▷ λ o. Ok (new o)) (((layout_laws F).new_exact m o).1 l.1)
  complete (modify x) l = by_modify l.0 ∙ ap (λ x. x ▷ λ o. Ok (modify o)) (((layout_laws F).modify_exact m x).1 l.1)
  complete (cancel x) l = by_cancel l.0 ∙ ap (λ x. x ▷ λ o. Ok (cancel o)) (((layout_laws F).cancel_exact m x).1 l.1)
  complete (listing ms) l = by_snapshot l.0 ∙ counted_said ms l.1 l.2
  complete blank l = blank_read l
  complete trade l = by_trade l
  complete volume l = by_volume l

  -- and what is read is laid out
  pub sound : (s : Said T) → message_of F m ≡ Ok s → LaidOut F m s
  sound s h = elim lettered [ inr n ↦ absurd (cc (by_none n)) | inl l ↦ by l ]
    where
      by : Lettered F m → LaidOut F m s
      by (inl c) = let k = carried (new_of F m) new s (sym (by_new c) ∙ h) in subst (LaidOut F m) k.2 (c, ((layout_laws F).new_exact m k.0).0 k.1)
      by (inr (inl c)) = let k = carried (modify_of F m) modify s (sym (by_modify c) ∙ h) in subst (LaidOut F m) k.2 (c, ((layout_laws F).modify_exact m k.0).0 k.1)
      by (inr (inr (inl c))) = let k = carried (cancel_of m) cancel s (sym (by_cancel c) ∙ h) in subst (LaidOut F m) k.2 (c, ((layout_laws F).cancel_exact m k.0).0 k.1)
      by (inr (inr (inr (inl c)))) = snapshot_sound s c (sym (by_snapshot c) ∙ h)
      by (inr (inr (inr (inr (inl c))))) = let e = sym (by_trade c) ∙ h in let same : trade ≡ s = cc in subst (LaidOut F m) same c
      by (inr (inr (inr (inr (inr c))))) = let e = sym (by_volume c) ∙ h in let same : volume ≡ s = cc in subst (LaidOut F m) same c

  pub faults : (f : MessageFault) → message_of F m ≡ Err f → Refused F m f
  faults f h = record {
    new_fault = λ c. faulted (new_of F m) new f (sym (by_new c) ∙ h);
    modify_fault = λ c. faulted (modify_of F m) modify f (sym (by_modify c) ∙ h);
    cancel_fault = λ c. faulted (cancel_of m) cancel f (sym (by_cancel c) ∙ h);
    snapshot_fault = λ c. snapshot_refused f (sym (by_snapshot c) ∙ h);
    no_fault = λ c. elim c [ inl t ↦ absurd (cc (by_trade t)) | inr v ↦ absurd (cc (by_volume v)) ];
    letter_fault = λ n. let e = sym (by_none n) ∙ h in let same : NoLetter ≡ f = cc in sym same;
  }

pub message_laws : {T : Type 0} (F : venue.Form T) → MessageLaws F
message_laws F = record {
  sound = λ m. sound F m;
  complete = λ m. complete F m;
  one = λ m s t a b. let p = complete F m s a in let q = complete F m t b in cc;
  faults = λ m. faults F m;
}

-- what is told of a reading says exactly what is laid out
pub exactly : {T : Type 0} (F : venue.Form T) (m : List ℕ) → Exactly F m (summed (message_of F m))
exactly {T} F m = record {
  reads = λ s l. ap summed (complete F m s l);
  says = λ x h. by (message_of F m) refl x h;
  refuses = λ f h. faults F m f (back (message_of F m) f h);
}
  where
    by : (r : Reading (Said T)) → message_of F m ≡ r → (x : Message T) → summed r ≡ Ok x → (s : Said T) × LaidOut F m s × (x ≡ summary s)
    by (Ok s) e x h = let same : summary s ≡ x = cc in (s, sound F m s e, sym same)
    by (Err f) e x h = absurd cc

    back : (r : Reading (Said T)) (f : MessageFault) → summed r ≡ Err f → r ≡ Err f
    back (Ok s) f h = absurd cc
    back (Err g) f h = let same : g ≡ f = cc in ap Err same
