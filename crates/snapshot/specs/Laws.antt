-- The laws of snapshots, for a venue's form.
use Rattle.std.specs.Prelude.{◌≡◌, ℕ, ◌⊎◌, List, [], length, Some, None, Ok, Err}
use Rattle.venue.specs.Form as venue
use Rattle.message.specs.declared.fault.MessageFault.{MessageFault}
use Rattle.message.specs.declared.fault.MessageFault.TheVariants.{Repeated}
use Rattle.snapshot.specs.declared.mark.Mark.{Mark}
use Rattle.snapshot.specs.declared.checks.Counts.{Counts}
use Rattle.snapshot.specs.Snapshot.{snapshot_of}
use Rattle.snapshot.specs.Laid.{CountedLaid}
use Rattle.snapshot.specs.Faults.{Located, CountedStops}
use Rattle.snapshot.specs.Repeats.{first_repeat, Distinct, RepeatAt}
use Rattle.snapshot.specs.Listing.{pairs_listed, orders_put}
use Rattle.snapshot.specs.Checked.{checked}

-- each follows from the other
abbrev pub Same : Type 0 → Type 0 → Type 0
Same A B = (A → B) × (B → A)

module _ {T : Type 0} (F : venue.Form T) (m : List ℕ) where
  -- the bytes lay out a snapshot that repeats nothing, of so many pairs and orders
  pub record Accepted (n : Counts) : Type 0 where
    pub marks : List (Mark T)
    pub laid : CountedLaid F m marks
    pub distinct : Distinct marks
    pub pairs : n.pairs ≡ length (pairs_listed marks)
    pub orders : n.orders ≡ length (orders_put marks)

  pub data Refused : MessageFault → Type 0 where
    -- the bytes lay out no snapshot, and the first check that fails has this fault
    by_layout : (f : MessageFault) → CountedStops F m f → Refused f
    -- they lay one out, and its first repeat is here
    by_repeat : (ms : List (Mark T)) (p : ℕ) → CountedLaid F m ms → RepeatAt ms p → Refused (Repeated p)

pub record SnapshotLaws {T : Type 0} (F : venue.Form T) : Type 0 where
  -- a snapshot is read exactly when the bytes lay it out, and up to their end
  pub counted_exact : (m : List ℕ) (ms : List (Mark T)) → Same (snapshot_of F m ≡ Ok (ms, length m)) (CountedLaid F m ms)
  pub to_the_end : (m : List ℕ) (ms : List (Mark T)) (e : ℕ) → snapshot_of F m ≡ Ok (ms, e) → e ≡ length m
  -- no bytes lay out two
  pub one_listing : (m : List ℕ) (ms ns : List (Mark T)) → CountedLaid F m ms → CountedLaid F m ns → ms ≡ ns
  -- a fault names the check that fails first
  pub faults_exact : (m : List ℕ) (f : MessageFault) → Same (snapshot_of F m ≡ Err f) (CountedStops F m f)
  pub one_fault : (m : List ℕ) (f g : MessageFault) → CountedStops F m f → CountedStops F m g → f ≡ g
  pub located : (m : List ℕ) (f : MessageFault) → CountedStops F m f → Located f
  -- every message lays out a snapshot or has a fault, and none both
  pub laid_or_stopped : (m : List ℕ) → ((ms : List (Mark T)) × CountedLaid F m ms) ⊎ ((f : MessageFault) × CountedStops F m f)
  pub never_both : (m : List ℕ) (ms : List (Mark T)) (f : MessageFault) → CountedLaid F m ms → CountedStops F m f → ⊥
  -- the first repeat
  pub no_repeat : (ms : List (Mark T)) → Same (first_repeat [] ms ≡ None) (Distinct ms)
  pub first_repeat_is : (ms : List (Mark T)) (p : ℕ) → Same (first_repeat [] ms ≡ Some p) (RepeatAt ms p)
  -- a snapshot that is checked whole
  pub accepts : (m : List ℕ) (n : Counts) → Same (checked (snapshot_of F m) ≡ Ok n) (Accepted F m n)
  pub refuses : (m : List ℕ) (f : MessageFault) → Same (checked (snapshot_of F m) ≡ Err f) (Refused F m f)
