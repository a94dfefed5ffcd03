-- What a message does to a ladder.
use Rattle.std.specs.Prelude.{◌≡◌, ℕ, cond, List, Ok, Err, Result, nat_le}
use Rattle.book.specs.declared.order.Order.{Order}
use Rattle.book.specs.declared.ladder.BookFault.TheVariants.{Full}
use Rattle.venue.specs.Form as venue
use Rattle.message.specs.declared.fault.MessageFault.{MessageFault}
use Rattle.message.specs.declared.fault.MessageFault.TheVariants.{Book}
use Rattle.message.specs.Reading.{Reading, ◌▷◌}
use Rattle.snapshot.specs.declared.mark.Mark.{Mark}
use Rattle.snapshot.specs.Listing.{room_needed, replaced}
use Rattle.orders.specs.Applied.{After, refusal, new_after, cancel_after, modify_after}
use Rattle.apply.specs.declared.messages.Message.{Message}
use Rattle.apply.specs.Said.{Said, new, modify, cancel, listing, blank, trade, volume, message_of, summary}

-- a snapshot: 33 at the message's first byte unless there is room for the orders that stay and those that are put;
-- then the pairs listed are cleared and their orders placed as listed
unfoldable pub snapshot_after : {T : Type 0} → ℕ → List (Order T) → List (Mark T) → After T
snapshot_after capacity l ms = cond (nat_le (room_needed ms l) capacity) (Ok (replaced ms l)) (Err (refusal Full 0))

module _ {T : Type 0} (F : venue.Form T) (capacity : ℕ) (l : List (Order T)) where
  -- the ladder after a message, or the book's refusal
  abbrev pub after : Said T → After T
  after (new o) = new_after capacity l o
  after (modify x) = modify_after F l x
  after (cancel x) = cancel_after l x
  after (listing ms) = snapshot_after capacity l ms
  after blank = Ok l
  after trade = Ok l
  after volume = Ok l

  abbrev pub with_ladder : Said T → After T → Reading (Said T × List (Order T))
  with_ladder s (Ok l') = Ok (s, l')
  with_ladder s (Err e) = Err (Book e)

  -- the bytes of a message worked: what it says and the ladder then, or the first fault, the book's inside the message's
  abbrev pub worked : List ℕ → Reading (Said T × List (Order T))
  worked m = message_of F m ▷ λ s. with_ladder s (after s)

-- the answer to the bytes of a message, and the ladder then
abbrev pub Works : {T : Type 0} → Reading (Said T × List (Order T)) → List (Order T) → Result (Message T) MessageFault → List (Order T) → Type 0
Works (Ok x) l r l' = (r ≡ Ok (summary x.0)) × (l' ≡ x.1)
Works (Err f) l r l' = (r ≡ Err f) × (l' ≡ l)
