-- What the messages on one order do to a ladder: the ladder after it, or the book's refusal with the message's offset.
use Rattle.std.specs.Prelude.{◌≡◌, ℕ, Bool, cond, not, ◌&&◌, List, length, Some, None, Ok, Err, Option, Result, nat_le}
use Rattle.std.specs.Str.{bytes_eq}
use Rattle.std.specs.Option.{unwrap_or}
use Rattle.fields.specs.Values.{Price}
use Rattle.book.specs.declared.order.Side.{Side}
use Rattle.book.specs.declared.order.Order.{Order}
use Rattle.book.specs.declared.ladder.BookFault.{BookFault}
use Rattle.book.specs.declared.ladder.BookFault.TheVariants.{NotStanding, Standing, Full}
use Rattle.book.specs.Ladder.{OrderId, stands, lookup, placed, without, amended}
use Rattle.venue.specs.Form as venue
use Rattle.message.specs.declared.fault.BookRefusal.{BookRefusal}
use Rattle.message.specs.declared.fault.MessageFault.{MessageFault}
use Rattle.message.specs.declared.fault.MessageFault.TheVariants.{Book}
use Rattle.message.specs.declared.messages.Cancel.{Cancel}
use Rattle.message.specs.declared.messages.Modify.{Modify}
use Rattle.message.specs.Orders.{replaced_offset}

-- the ladder after a message, or why the book refuses it and where the message names the order
abbrev pub After : Type 0 → Type 0
After T = Result (List (Order T)) BookRefusal

abbrev pub refusal : BookFault → ℕ → BookRefusal
refusal f k = record { fault = f; at = k }

abbrev pub ids_agree : OrderId → OrderId → Bool
ids_agree i j = bytes_eq i.bytes j.bytes

-- New: 32 at its id, then 33 at the message's first byte
abbrev pub new_offset : BookFault → ℕ
new_offset NotStanding = 9
new_offset Standing = 9
new_offset Full = 0

unfoldable pub new_after : {T : Type 0} → ℕ → List (Order T) → Order T → After T
new_after capacity l o =
    cond (stands o.pair o.id l) (Err (refusal Standing 9)) (cond (nat_le capacity (length l)) (Err (refusal Full 0)) (Ok (placed o l)))

-- Cancel: 31 at its id
unfoldable pub cancel_after : {T : Type 0} → List (Order T) → Cancel → After T
cancel_after l x = cond (stands x.pair x.id l) (Ok (without x.pair x.id l)) (Err (refusal NotStanding 8))

-- the order that Modify changes: the replaced id if filled, otherwise the active id
abbrev pub target : {T : Type 0} → Modify T → OrderId
target x = unwrap_or x.replaced x.active

-- the offset of the field that names it
abbrev pub target_at : {T U : Type 0} → venue.Form T → Option U → ℕ
target_at F None = 8
target_at F (Some _) = replaced_offset F

-- the order that a Modify with this price places, on the target's side
abbrev pub order_of_active : {T : Type 0} → Modify T → Price → Side → Order T
order_of_active x price side = record { pair = x.pair; side = side; id = x.active; price = price; amount = x.amount; terms = x.terms }

module _ {T : Type 0} (l : List (Order T)) (x : Modify T) where
  -- the active id is not the target, and stands
  abbrev pub taken : Bool
  taken = not (ids_agree (target x) x.active) && stands x.pair x.active l

  -- without a price the target is amended where it stands; with one it is removed, and the active id is placed on its side
  abbrev pub changed : Option Price → Side → List (Order T)
  changed None side = amended x.pair (target x) x.amount x.terms l
  changed (Some price) side = placed (order_of_active x price side) (without x.pair (target x) l)

  abbrev pub modify_by : ℕ → Option (Order T) → After T
  modify_by k None = Err (refusal NotStanding k)
  modify_by k (Some old) = cond taken (Err (refusal Standing 8)) (Ok (changed x.price old.side))

-- Modify: 31 at the target, then 32 at the active id
unfoldable pub modify_after : {T : Type 0} → venue.Form T → List (Order T) → Modify T → After T
modify_after F l x = modify_by l x (target_at F x.replaced) (lookup x.pair (target x) l)

-- The answer to a message and the ladder then: the ladder meant; or the book's refusal as the message's, and the ladder as it was.
abbrev pub Applies : {T : Type 0} → After T → List (Order T) → Result (Unit {0}) MessageFault → List (Order T) → Type 0
Applies a l (Ok u) l' = a ≡ Ok l'
Applies a l (Err f) l' = (e : BookRefusal) × (a ≡ Err e) × (f ≡ Book e) × (l' ≡ l)
