-- An order by the messages accepted: which name it, which put it, and with what. A history has the newest message first.
use Rattle.std.specs.Prelude.{◌≡◌, ℕ, Bool, false, cond, ◌&&◌, ◌||◌, List, [], ◌∷◌, drop, Some, None, Ok, Err, Option, Result}
use Rattle.std.specs.Option.{option_map, option_or}
use Rattle.fields.specs.Values.{Pair, Price, Amount}
use Rattle.book.specs.declared.order.Order.{Order}
use Rattle.book.specs.declared.order.Side.{Side}
use Rattle.book.specs.Ladder.{OrderId, same_pair, named, lookup}
use Rattle.message.specs.declared.messages.Modify.{Modify}
use Rattle.message.specs.Reading.{Reading}
use Rattle.packet.specs.declared.packets.Packet.{Packet}
use Rattle.packet.specs.declared.packets.Packet.TheVariants as packet
use Rattle.packet.specs.declared.packets.FormFault.{FormFault}
use Rattle.orders.specs.Applied.{ids_agree, target}
use Rattle.snapshot.specs.Listing.{lists, pairs_listed, orders_put}
use Rattle.apply.specs.Said.{Said, new, modify, cancel, listing, blank, trade, volume, message_of}
use Rattle.days.specs.declared.faults.PacketFault.{PacketFault}
use Rattle.days.specs.declared.events.Event.{Event}
use Rattle.days.specs.declared.events.Report.{Report}
use Rattle.days.specs.Model.{Rules}

-- a filled id is i
abbrev pub filled_as : Option OrderId → OrderId → Bool
filled_as None i = false
filled_as (Some j) i = ids_agree j i

-- what a Modify leaves last put: its price and the target's side with the id that it acts on, if it has a price
abbrev pub with_price : Option Price → Bool → Option (Side × Price) → Option (Side × Price) → Option (Side × Price)
with_price None acts of-target own = own
with_price (Some c) acts of-target own = cond acts (option_map (λ s. (s.0, c)) of-target) own

module _ {T : Type 0} where
  -- the message is on pair p with active id i
  abbrev pub acts_on : Modify T → Pair → OrderId → Bool
  acts_on x p i = same_pair x.pair p && ids_agree x.active i

  -- New and Cancel name their id, Modify its filled ids, a snapshot every id of its pairs
  abbrev pub names : Said T → Pair → OrderId → Bool
  names (new o) p i = named p i o
  names (modify x) p i = same_pair x.pair p && (ids_agree x.active i || filled_as x.replaced i)
  names (cancel x) p i = same_pair x.pair p && ids_agree x.id i
  names (listing ms) p i = lists (pairs_listed ms) p
  names blank p i = false
  names trade p i = false
  names volume p i = false

  -- the amount and the terms with which a message puts an id: New its id, Modify the active id, a snapshot those that it lists
  abbrev pub puts : Said T → Pair → OrderId → Option (Amount × T)
  puts (new o) p i = cond (named p i o) (Some (o.amount, o.terms)) None
  puts (modify x) p i = cond (acts_on x p i) (Some (x.amount, x.terms)) None
  puts (cancel x) p i = None
  puts (listing ms) p i = option_map (λ o. (o.amount, o.terms)) (lookup p i (orders_put ms))
  puts blank p i = None
  puts trade p i = None
  puts volume p i = None

  -- the side and the price last put with an id: a priced Modify puts its price and the side last put with its target, another neither
  abbrev pub last_put : List (Said T) → Pair → OrderId → Option (Side × Price)
  last_put [] p i = None
  last_put (new o ∷ h) p i = cond (named p i o) (Some (o.side, o.price)) (last_put h p i)
  last_put (modify x ∷ h) p i = with_price x.price (acts_on x p i) (last_put h p (target x)) (last_put h p i)
  last_put (cancel x ∷ h) p i = last_put h p i
  last_put (listing ms ∷ h) p i = option_or (option_map (λ o. (o.side, o.price)) (lookup p i (orders_put ms))) (last_put h p i)
  last_put (blank ∷ h) p i = last_put h p i
  last_put (trade ∷ h) p i = last_put h p i
  last_put (volume ∷ h) p i = last_put h p i

  -- what the last message that names an id puts of it
  abbrev pub last_named : List (Said T) → Pair → OrderId → Option (Amount × T)
  last_named [] p i = None
  last_named (m ∷ h) p i = cond (names m p i) (puts m p i) (last_named h p i)

  -- An order stands exactly when the last message that names it puts it; with that message's amount and terms, and the side and
  -- price last put with it.
  abbrev pub StandsAs : Option (Order T) → Pair → OrderId → Option (Side × Price) → Option (Amount × T) → Type 0
  StandsAs u p i w None = u ≡ None
  StandsAs u p i w (Some at) =
      (o : Order T) × (u ≡ Some o) × (o.pair ≡ p) × (o.id ≡ i) × (o.amount ≡ at.0) × (o.terms ≡ at.1) × (w ≡ Some (o.side, o.price))

  abbrev pub StandsBy : List (Said T) → List (Order T) → Type 0
  StandsBy h l = (p : Pair) (i : OrderId) → StandsAs (lookup p i l) p i (last_put h p i) (last_named h p i)

module _ {T : Type 0} (v : Rules T) where
  abbrev pub said_before : Reading (Said T) → List (Said T) → List (Said T)
  said_before (Ok s) h = s ∷ h
  said_before (Err f) h = h

  -- the message that a packet carries, onto those before
  abbrev pub carried : List ℕ → Result Packet FormFault → List (Said T) → List (Said T)
  carried bs (Err f) h = h
  carried bs (Ok (packet.LoginAccepted n)) h = h
  carried bs (Ok packet.LoginRejected) h = h
  carried bs (Ok packet.EndOfSession) h = h
  carried bs (Ok (packet.Sequenced t)) h = said_before (message_of v.form (drop 10 bs)) h
  carried bs (Ok packet.Heartbeat) h = h
  carried bs (Ok packet.ErrorNotification) h = h
  carried bs (Ok (packet.Directory n)) h = h

  abbrev pub carried_by : List ℕ → Result ℕ FormFault → List (Said T) → List (Said T)
  carried_by bs (Err f) h = h
  carried_by bs (Ok c) h = carried bs (v.layout c bs) h

  -- a message is accepted exactly when its report is an event
  abbrev pub accepting : Result Event PacketFault → List ℕ → List (Said T) → List (Said T)
  accepting (Ok e) bs h = carried_by bs (v.head bs) h
  accepting (Err f) bs h = h

  -- the messages accepted, from packets and their reports, onto those before
  abbrev pub accepted : List (List ℕ) → List Report → List (Said T) → List (Said T)
  accepted [] rs h = h
  accepted (p ∷ ps) [] h = h
  accepted (p ∷ ps) (r ∷ rs) h = accepted ps rs (accepting r.outcome p h)
