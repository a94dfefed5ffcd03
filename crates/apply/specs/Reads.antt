-- The laws of what messages say.
use Rattle.std.specs.Prelude.{◌≡◌, ℕ, ◌<◌, ◌≤◌, ◌⊎◌, List, length, Ok, Err, Result, slice_index, slice_index_or}
use Rattle.venue.specs.Form as venue
use Rattle.message.specs.declared.fault.MessageFault.{MessageFault}
use Rattle.message.specs.declared.fault.MessageFault.TheVariants.{NoLetter, WrongLength, Repeated}
use Rattle.message.specs.Orders.{new_of, modify_of, cancel_of}
use Rattle.snapshot.specs.declared.mark.Mark.{Mark}
use Rattle.snapshot.specs.Laid.{CountedLaid}
use Rattle.snapshot.specs.Repeats.{RepeatAt}
use Rattle.snapshot.specs.Faults.{CountedStops}
use Rattle.apply.specs.declared.messages.Message.{Message}
use Rattle.apply.specs.Said.{Said, LaidOut, Blank, message_of, summary}

module _ {T : Type 0} (F : venue.Form T) (m : List ℕ) where
  -- N, M, X, S, T and V
  abbrev pub Lettered : Type 0
  Lettered =
      (slice_index m 0 ≡ 78) ⊎ ((slice_index m 0 ≡ 77) ⊎ ((slice_index m 0 ≡ 88) ⊎ ((slice_index m 0 ≡ 83) ⊎ ((slice_index m 0 ≡ 84) ⊎ (slice_index m 0 ≡ 86)))))

  -- why a snapshot is refused: it is too short; or, not blank, it stops at the first check that fails; or it is laid out and has a first repeat
  abbrev pub SnapshotRefused : MessageFault → Type 0
  SnapshotRefused f =
      ((length m < 7) × (f ≡ WrongLength))
      ⊎ ((7 ≤ length m) × (Blank m → ⊥) × (CountedStops F m f ⊎ ((ms : List (Mark T)) × (p : ℕ) × CountedLaid F m ms × RepeatAt ms p × (f ≡ Repeated p))))

  -- why a message is refused, by its letter
  pub record Refused (f : MessageFault) : Type 0 where
    pub new_fault : slice_index_or m 0 0 ≡ 78 → new_of F m ≡ Err f
    pub modify_fault : slice_index_or m 0 0 ≡ 77 → modify_of F m ≡ Err f
    pub cancel_fault : slice_index_or m 0 0 ≡ 88 → cancel_of m ≡ Err f
    pub snapshot_fault : slice_index_or m 0 0 ≡ 83 → SnapshotRefused f
    pub no_fault : (slice_index m 0 ≡ 84) ⊎ (slice_index m 0 ≡ 86) → ⊥
    pub letter_fault : (Lettered → ⊥) → f ≡ NoLetter

  -- what was answered is the message that the bytes lay out; and where they lay out none, why
  pub record Exactly (r : Result (Message T) MessageFault) : Type 0 where
    pub reads : (s : Said T) → LaidOut F m s → r ≡ Ok (summary s)
    pub says : (x : Message T) → r ≡ Ok x → (s : Said T) × LaidOut F m s × (x ≡ summary s)
    pub refuses : (f : MessageFault) → r ≡ Err f → Refused f

pub record MessageLaws {T : Type 0} (F : venue.Form T) : Type 0 where
  -- a message is read exactly when the bytes lay it out
  pub sound : (m : List ℕ) (s : Said T) → message_of F m ≡ Ok s → LaidOut F m s
  pub complete : (m : List ℕ) (s : Said T) → LaidOut F m s → message_of F m ≡ Ok s
  -- no bytes lay out two messages
  pub one : (m : List ℕ) (s t : Said T) → LaidOut F m s → LaidOut F m t → s ≡ t
  -- a fault is that of the letter's own layout
  pub faults : (m : List ℕ) (f : MessageFault) → message_of F m ≡ Err f → Refused F m f
