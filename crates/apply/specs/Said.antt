-- Which message the bytes are, by the first of them.
use Rattle.std.specs.Prelude.{◌≡◌, ℕ, Bool, cond, List, [], length, Some, None, Ok, Err, codes, Option, Result, ◌==◌, nat_lt, slice_index}
use Rattle.std.specs.Str.{bytes_eq}
use Rattle.book.specs.declared.order.Order.{Order}
use Rattle.venue.specs.Form as venue
use Rattle.message.specs.declared.fault.MessageFault.{MessageFault}
use Rattle.message.specs.declared.fault.MessageFault.TheVariants.{NoLetter, WrongLength, Repeated}
use Rattle.message.specs.declared.messages.Cancel.{Cancel}
use Rattle.message.specs.declared.messages.Modify.{Modify}
use Rattle.message.specs.Reading.{Reading, ◌▷◌}
use Rattle.message.specs.Orders.{new_of, modify_of, cancel_of}
use Rattle.message.specs.Laid.{NewRow, ModifyRow, CancelRow}
use Rattle.snapshot.specs.declared.mark.Mark.{Mark}
use Rattle.snapshot.specs.Scanning.{Scan}
use Rattle.snapshot.specs.Snapshot.{snapshot_of}
use Rattle.snapshot.specs.Laid.{CountedLaid}
use Rattle.snapshot.specs.Repeats.{first_repeat, Distinct}
use Rattle.snapshot.specs.Listing.{pairs_listed}
use Rattle.apply.specs.declared.messages.Message.{Message}
use Rattle.apply.specs.declared.messages.Message.TheVariants as told

-- what a message says, whole
pub data Said (T : Type 0) : Type 0 where
  new : Order T → Said T
  modify : Modify T → Said T
  cancel : Cancel → Said T
  -- the pairs that a snapshot lists and the orders that it puts, in layout order
  listing : List (Mark T) → Said T
  blank : Said T
  trade : Said T
  volume : Said T

-- exactly the letter S, five spaces and the digit 0
abbrev pub Blank : List ℕ → Type 0
Blank m = m ≡ codes "S     0"

abbrev pub is_blank_message : List ℕ → Bool
is_blank_message m = bytes_eq m (codes "S     0")

module _ {T : Type 0} (F : venue.Form T) (m : List ℕ) where
  -- these bytes lay out this message
  abbrev pub LaidOut : Said T → Type 0
  LaidOut (new o) = (slice_index m 0 ≡ 78) × NewRow F m o
  LaidOut (modify x) = (slice_index m 0 ≡ 77) × ModifyRow F m x
  LaidOut (cancel x) = (slice_index m 0 ≡ 88) × CancelRow m x
  LaidOut (listing ms) = (slice_index m 0 ≡ 83) × CountedLaid F m ms × Distinct ms
  LaidOut blank = Blank m
  LaidOut trade = slice_index m 0 ≡ 84
  LaidOut volume = slice_index m 0 ≡ 86

  -- a counted snapshot in which nothing repeats, or its fault
  abbrev pub unrepeated : List (Mark T) → Option ℕ → Reading (Said T)
  unrepeated ms None = Ok (listing ms)
  unrepeated ms (Some p) = Err (Repeated p)

  abbrev pub listed : Scan (List (Mark T)) → Reading (Said T)
  listed (Ok x) = unrepeated x.0 (first_repeat [] x.0)
  listed (Err f) = Err f

  -- a snapshot: 22 under seven bytes; blank, or counted
  unfoldable pub snapshot_said : Reading (Said T)
  snapshot_said = cond (nat_lt (length m) 7) (Err WrongLength) (cond (is_blank_message m) (Ok blank) (listed (snapshot_of F m)))

  -- the message by its letter: N, M, X, S, T, V
  unfoldable pub message_of : Reading (Said T)
  message_of = cond (slice_index m 0 == 78) (new_of F m ▷ λ o. Ok (new o))
      (cond (slice_index m 0 == 77) (modify_of F m ▷ λ x. Ok (modify x))
      (cond (slice_index m 0 == 88) (cancel_of m ▷ λ x. Ok (cancel x))
      (cond (slice_index m 0 == 83) snapshot_said
      (cond (slice_index m 0 == 84) (Ok trade)
      (cond (slice_index m 0 == 86) (Ok volume)
      (Err NoLetter))))))

-- what is told of a message
abbrev pub summary : {T : Type 0} → Said T → Message T
summary (new o) = told.New o
summary (modify x) = told.Modify x
summary (cancel x) = told.Cancel x
summary (listing ms) = told.Snapshot (length (pairs_listed ms))
summary blank = told.Snapshot 0
summary trade = told.Trade
summary volume = told.Volume

abbrev pub summed : {T : Type 0} → Reading (Said T) → Result (Message T) MessageFault
summed (Ok s) = Ok (summary s)
summed (Err f) = Err f

-- what a message says that is told so; a snapshot's number does not tell its pairs, and a blank one stands for it
abbrev pub said_by : {T : Type 0} → Message T → Said T
said_by (told.New o) = new o
said_by (told.Modify x) = modify x
said_by (told.Cancel x) = cancel x
said_by (told.Snapshot n) = blank
said_by told.Trade = trade
said_by told.Volume = volume
