-- What a checked snapshot says.
use Rattle.std.proofs.Common.{◌≡◌, ℕ, ◌<◌, ◌≤◌, true, false, List, [], length, Some, None, Ok, Err, Option, Result, sym, refl, ap, ◌∙◌, subst}
use Rattle.std.specs.Result.{result_map_both}
use Rattle.std.proofs.lemmas.Bool.{lt-ltb, le-ltb}
use Rattle.venue.specs.Form as venue
use Rattle.message.specs.declared.fault.MessageFault.{MessageFault}
use Rattle.message.specs.declared.fault.MessageFault.TheVariants.{WrongLength, Repeated}
use Rattle.snapshot.specs.declared.mark.Mark.{Mark}
use Rattle.snapshot.specs.declared.checks.Counts.{Counts}
use Rattle.snapshot.specs.Scanning.{Scan}
use Rattle.snapshot.specs.Snapshot.{snapshot_of}
use Rattle.snapshot.specs.Repeats.{first_repeat}
use Rattle.snapshot.specs.Listing.{pairs_listed, orders_put}
use Rattle.snapshot.specs.Checked.{told, checked}
use Rattle.apply.specs.Marks.{marks_of, marks}
use Rattle.apply.specs.Checked.{Counted, Checked}
use Rattle.apply.specs.Said.{blank, is_blank_message, listed, unrepeated, snapshot_said}

module _ {T : Type 0} (F : venue.Form T) (m : List ℕ) where
  pub short_so : length m < 7 → snapshot_said F m ≡ Err WrongLength
  unfolding snapshot_said
  short_so h = rw (lt-ltb (length m) 7 h)

  pub blank_so : 7 ≤ length m → is_blank_message m ≡ true → snapshot_said F m ≡ Ok blank
  unfolding snapshot_said
  blank_so h b = rw (le-ltb (length m) 7 h, b)

  counted_so : 7 ≤ length m → is_blank_message m ≡ false → snapshot_said F m ≡ listed F m (snapshot_of F m)
  unfolding snapshot_said
  counted_so h b = rw (le-ltb (length m) 7 h, b)

  pub fault_so : (f : MessageFault) → 7 ≤ length m → is_blank_message m ≡ false → checked (snapshot_of F m) ≡ Err f → snapshot_said F m ≡ Err f
  unfolding checked
  fault_so f h b e = counted_so h b ∙ by (snapshot_of F m) e
    where
      by : (x : Scan (List (Mark T))) → checked x ≡ Err f → listed F m x ≡ Err f
      by (Err g) e = let same : g ≡ f = cc in ap Err same
      by (Ok y) e = go (first_repeat [] y.0) e
        where
          go : (o : Option ℕ) → told o (record { pairs = length (pairs_listed y.0); orders = length (orders_put y.0) }) ≡ Err f → unrepeated F m y.0 o ≡ Err f
          go (Some p) e = let same : Repeated p ≡ f = cc in ap Err same
          go None e = absurd cc

  -- what is known of a snapshot that was checked
  pub record Whole (n : Counts) : Type 0 where
    pub end : ℕ
    pub read : snapshot_of F m ≡ Ok (marks F m, end)
    pub none : first_repeat [] (marks F m) ≡ None
    pub pairs : n.pairs ≡ length (pairs_listed (marks F m))
    pub orders : n.orders ≡ length (orders_put (marks F m))

  pub whole : (n : Counts) → checked (snapshot_of F m) ≡ Ok n → Whole n
  unfolding checked
  whole n e = by (snapshot_of F m) refl e
    where
      by : (x : Scan (List (Mark T))) → snapshot_of F m ≡ x → checked x ≡ Ok n → Whole n
      by (Err g) k e = absurd cc
      by (Ok y) k e = go (first_repeat [] y.0) refl e
        where
          go : (o : Option ℕ) → first_repeat [] y.0 ≡ o → told o (record { pairs = length (pairs_listed y.0); orders = length (orders_put y.0) }) ≡ Ok n → Whole n
          go (Some p) r e = absurd cc
          go None r e =
              let are : y.0 ≡ marks F m = ap marks_of (sym k) in
              let is : Counts = record { pairs = length (pairs_listed y.0); orders = length (orders_put y.0) } in
              let same : n ≡ is = cc in
              record {
                end = y.1;
                read = k ∙ ap (λ ms. Ok (ms, y.1)) are;
                none = subst (λ ms. first_repeat [] ms ≡ None) are r;
                pairs = ap (λ (c : Counts). c.pairs) same ∙ ap (λ ms. length (pairs_listed ms)) are;
                orders = ap (λ (c : Counts). c.orders) same ∙ ap (λ ms. length (orders_put ms)) are;
              }

  pub listed_so : (n : Counts) → 7 ≤ length m → is_blank_message m ≡ false → checked (snapshot_of F m) ≡ Ok n → Counted F m n
  listed_so n h b e =
      let w = whole n e in
      record { counts = e; pairs = w.pairs; said = counted_so h b ∙ ap (listed F m) w.read ∙ ap (unrepeated F m (marks F m)) w.none }

  -- the check's answer, where the message is long enough and not blank
  pub check_so : (r : Result Counts MessageFault) → 7 ≤ length m → is_blank_message m ≡ false → r ≡ checked (snapshot_of F m) → Checked F m (result_map_both Some (λ e. e) r)
  check_so (Err f) h b e = fault_so f h b (sym e)
  check_so (Ok n) h b e = listed_so n h b (sym e)
