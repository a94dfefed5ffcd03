-- The laws of snapshots.
use Rattle.std.proofs.Common.{◌≡◌, ℕ, List, [], length, Some, None, Ok, Err, Option, sym, refl, ap, ◌∙◌, subst, ap₂}
use Rattle.readers.specs.Laws.{ReaderLaws}
use Rattle.readers.specs.Blanks.{pair_filled, label_filled, time_filled, price_filled, amount_filled, integer_filled, side_filled}
use Rattle.readers.specs.Lawful.{pair_law, label_law, time_law, price_law, amount_law, quantity_law, integer_law, side_law}
use Rattle.venue.specs.Form as venue
use Rattle.message.specs.declared.fault.MessageFault.{MessageFault}
use Rattle.message.specs.declared.fault.MessageFault.TheVariants.{Repeated}
use Rattle.snapshot.specs.declared.mark.Mark.{Mark}
use Rattle.snapshot.specs.declared.checks.Counts.{Counts}
use Rattle.snapshot.specs.Scanning.{Scan}
use Rattle.snapshot.specs.Snapshot.{snapshot_of}
use Rattle.snapshot.specs.Laid.{CountedLaid}
use Rattle.snapshot.specs.Repeats.{first_repeat}
use Rattle.snapshot.specs.Listing.{pairs_listed, orders_put}
use Rattle.snapshot.specs.Checked.{told, checked}
use Rattle.snapshot.specs.Laws.{Accepted, Refused, by_layout, by_repeat, SnapshotLaws}
use Rattle.snapshot.proofs.Walks.{no}
use Rattle.snapshot.proofs.Repeating.{none_distinct, distinct_none, some_repeat, repeat_some}
use Rattle.snapshot.proofs.Snapshots.{counted_sound, counted_complete, one_listing, counted_stopped, counted_stopping, one_fault, stops_located, laid_or_stopped, never_both}

reader_laws : ReaderLaws
reader_laws = record {
  pair = pair_law;
  label = label_law;
  time = time_law;
  price = price_law;
  amount = amount_law;
  quantity = quantity_law;
  integer = integer_law;
  side = side_law;
  pair_filled = pair_filled;
  label_filled = label_filled;
  time_filled = time_filled;
  price_filled = price_filled;
  amount_filled = amount_filled;
  integer_filled = integer_filled;
  side_filled = side_filled;
}

module _ {T : Type 0} (F : venue.Form T) (m : List ℕ) where
  abbrev counted : List (Mark T) → Counts
  counted ms = record { pairs = length (pairs_listed ms); orders = length (orders_put ms) }

  accepted : (n : Counts) → checked (snapshot_of F m) ≡ Ok n → Accepted F m n
  unfolding checked
  accepted n h = by (snapshot_of F m) refl h
    where
      by_first : (ms : List (Mark T)) (e : ℕ) → snapshot_of F m ≡ Ok (ms, e) → (f : Option ℕ) → first_repeat [] ms ≡ f → told f (counted ms) ≡ Ok n → Accepted F m n
      by_first ms e k (Some p) i h = no (sym h)
      by_first ms e k None i h =
          let z : counted ms ≡ n = cc in
          record { marks = ms; laid = (counted_sound reader_laws F m ms e k).0; distinct = none_distinct ms i; pairs = ap (λ (c : Counts). c.pairs) (sym z); orders = ap (λ (c : Counts). c.orders) (sym z) }

      by : (x : Scan (List (Mark T))) → snapshot_of F m ≡ x → checked x ≡ Ok n → Accepted F m n
      by (Err y) k h = no (sym h)
      by (Ok v) k h = by_first v.0 v.1 k (first_repeat [] v.0) refl h

  read_so : (ms : List (Mark T)) → CountedLaid F m ms → checked (snapshot_of F m) ≡ told (first_repeat [] ms) (counted ms)
  unfolding checked
  read_so ms l = ap checked (counted_complete reader_laws F m ms l)

  accepting : (n : Counts) → Accepted F m n → checked (snapshot_of F m) ≡ Ok n
  accepting n a = read_so a.marks a.laid ∙ ap (λ f. told f (counted a.marks)) (distinct_none a.marks a.distinct)
      ∙ ap₂ (λ p o. Ok (record { pairs = p; orders = o })) (sym a.pairs) (sym a.orders)

  refused : (f : MessageFault) → checked (snapshot_of F m) ≡ Err f → Refused F m f
  unfolding checked
  refused f h = by (snapshot_of F m) refl h
    where
      by_first : (ms : List (Mark T)) (e : ℕ) → snapshot_of F m ≡ Ok (ms, e) → (r : Option ℕ) → first_repeat [] ms ≡ r → told r (counted ms) ≡ Err f → Refused F m f
      by_first ms e k None i h = no h
      by_first ms e k (Some p) i h =
          let z : Repeated p ≡ f = cc in
          subst (Refused F m) z (by_repeat ms p (counted_sound reader_laws F m ms e k).0 (some_repeat ms p i))

      by : (x : Scan (List (Mark T))) → snapshot_of F m ≡ x → checked x ≡ Err f → Refused F m f
      by (Err y) k h = let z : y ≡ f = cc in by_layout f (counted_stopped reader_laws F m f (k ∙ ap Err z))
      by (Ok v) k h = by_first v.0 v.1 k (first_repeat [] v.0) refl h

  refusing : (f : MessageFault) → Refused F m f → checked (snapshot_of F m) ≡ Err f
  unfolding checked
  refusing f (by_layout _ s) = ap checked (counted_stopping reader_laws F m f s)
  refusing _ (by_repeat ms p l r) = read_so ms l ∙ ap (λ f. told f (counted ms)) (repeat_some ms p r)

pub snapshot_laws : {T : Type 0} (F : venue.Form T) → SnapshotLaws F
snapshot_laws F = record {
  counted_exact = λ m ms. (λ h. (counted_sound reader_laws F m ms (length m) h).0, counted_complete reader_laws F m ms);
  to_the_end = λ m ms e h. (counted_sound reader_laws F m ms e h).1;
  one_listing = one_listing reader_laws F;
  faults_exact = λ m f. (counted_stopped reader_laws F m f, counted_stopping reader_laws F m f);
  one_fault = one_fault reader_laws F;
  located = stops_located reader_laws F;
  laid_or_stopped = laid_or_stopped reader_laws F;
  never_both = never_both reader_laws F;
  no_repeat = λ ms. (none_distinct ms, distinct_none ms);
  first_repeat_is = λ ms p. (some_repeat ms p, repeat_some ms p);
  accepts = λ m n. (accepted F m n, accepting F m n);
  refuses = λ m f. (refused F m f, refusing F m f);
}
