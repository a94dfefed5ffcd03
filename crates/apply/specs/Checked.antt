-- What the check of a snapshot tells.
use Rattle.std.specs.Prelude.{◌≡◌, ℕ, List, length, Some, None, Ok, Err, Option, Result}
use Rattle.venue.specs.Form as venue
use Rattle.message.specs.declared.fault.MessageFault.{MessageFault}
use Rattle.snapshot.specs.declared.checks.Counts.{Counts}
use Rattle.snapshot.specs.Snapshot.{snapshot_of}
use Rattle.snapshot.specs.Checked.{checked}
use Rattle.apply.specs.Marks.{marks, listed_in}
use Rattle.apply.specs.Said.{listing, blank, snapshot_said}

module _ {T : Type 0} (F : venue.Form T) (m : List ℕ) where
  -- n counts the pairs that it lists and the orders that it puts
  pub record Counted (n : Counts) : Type 0 where
    pub counts : checked (snapshot_of F m) ≡ Ok n
    pub pairs : n.pairs ≡ length (listed_in F m)
    pub said : snapshot_said F m ≡ Ok (listing (marks F m))

  -- its fault; nothing where it is blank; or the counts
  abbrev pub Checked : Result (Option Counts) MessageFault → Type 0
  Checked (Err f) = snapshot_said F m ≡ Err f
  Checked (Ok None) = snapshot_said F m ≡ Ok blank
  Checked (Ok (Some n)) = Counted n
