-- What packets do to a session's state and its ladder, and what a stream of bytes means.
use Rattle.std.specs.Prelude.{◌≡◌, ℕ, ◌+◌, ◌<◌, ◌≤◌, Bool, true, false, cond, ◌||◌, ◌⊎◌, List, [], ◌∷◌, ◌++◌, length, drop, None, Ok, Err, Result, ◌==◌}
use Rattle.std.specs.List.{AllByRecursion}
use Rattle.fields.specs.Values.{TimeOfDay}
use Rattle.book.specs.declared.order.Order.{Order}
use Rattle.book.specs.Ladder.{Ladder}
use Rattle.venue.specs.Form as venue
use Rattle.message.specs.Reading.{Reading}
use Rattle.packet.specs.declared.packets.Packet.{Packet}
use Rattle.packet.specs.declared.packets.Packet.TheVariants as packet
use Rattle.packet.specs.declared.packets.FormFault.{FormFault}
use Rattle.packet.specs.declared.packets.FormFault.TheVariants.{TooLong}
use Rattle.snapshot.specs.declared.mark.Mark.{Mark}
use Rattle.snapshot.specs.Repeats.{Distinct}
use Rattle.snapshot.specs.Listing.{lists, pairs_listed, orders_put}
use Rattle.apply.specs.Said.{Said, new, modify, cancel, listing, blank, trade, volume, message_of}
use Rattle.apply.specs.Meaning as message
use Rattle.days.specs.declared.state.State.{State}
use Rattle.days.specs.declared.state.State.TheVariants.{Waiting, Open, Closed}
use Rattle.days.specs.declared.faults.PacketFault.{PacketFault}
use Rattle.days.specs.declared.faults.PacketFault.TheVariants.{Form, NotTaken, Message}
use Rattle.days.specs.declared.events.Event.{Event}
use Rattle.days.specs.declared.events.Event.TheVariants as event
use Rattle.days.specs.declared.events.Report.{Report}

-- What the packets of a venue are read and written by. Packets are without their LF.
pub record Rules (T : Type 0) : Type 0 where
  pub form : venue.Form T
  -- the letter's code, or 11, 12, 13
  pub head : List ℕ → Result ℕ FormFault
  -- the packet of that letter, or 15, 16
  pub layout : ℕ → List ℕ → Result Packet FormFault
  pub is_time : List ℕ → Bool
  -- the packet of a snapshot of a ladder at a time
  pub writes : List ℕ → List (Order T) → List ℕ

abbrev pub NoLF : List ℕ → Type 0
NoLF bs = AllByRecursion (λ b. (b == 10) ≡ false) bs

-- A, J, H and E are taken while waiting; S, H, E and R while open; none when closed
abbrev pub takes : State → ℕ → Bool
takes Waiting c = c == 65 || (c == 74 || (c == 72 || c == 69))
takes Open c = c == 83 || (c == 72 || (c == 69 || c == 82))
takes Closed c = false

-- what is told of a message
abbrev pub event_of : {T : Type 0} → Said T → Event
event_of (new o) = event.New o.pair o.id
event_of (modify x) = event.Modify x.pair x.active
event_of (cancel x) = event.Cancel x.pair x.id
event_of (listing ms) = event.Snapshot (length (pairs_listed ms))
event_of blank = event.Snapshot 0
event_of trade = event.Trade
event_of volume = event.Volume

-- what a packet gives: its outcome, and state and ladder then
pub record Worked (T : Type 0) : Type 0 where
  pub outcome : Result Event PacketFault
  pub state : State
  pub ladder : List (Order T)

module _ {T : Type 0} (v : Rules T) (capacity : ℕ) (s : State) (l : List (Order T)) where
  -- a fault leaves state and ladder
  abbrev pub refused : PacketFault → Worked T
  refused f = record { outcome = Err f; state = s; ladder = l }

  abbrev pub by_message : Reading (Said T × List (Order T)) → Worked T
  by_message (Ok x) = record { outcome = Ok (event_of x.0); state = s; ladder = x.1 }
  by_message (Err f) = refused (Message f)

  -- a packet that is taken: A opens, J and the end close, H, E and R change nothing; a message from offset 10 on is worked
  abbrev pub by_packet : List ℕ → Result Packet FormFault → Worked T
  by_packet bs (Err f) = refused (Form f)
  by_packet bs (Ok (packet.LoginAccepted n)) = record { outcome = Ok event.LoginAccepted; state = Open; ladder = l }
  by_packet bs (Ok packet.LoginRejected) = record { outcome = Ok event.LoginRejected; state = Closed; ladder = l }
  by_packet bs (Ok packet.EndOfSession) = record { outcome = Ok event.EndOfSession; state = Closed; ladder = l }
  by_packet bs (Ok (packet.Sequenced t)) = by_message (message.worked v.form capacity l (drop 10 bs))
  by_packet bs (Ok packet.Heartbeat) = record { outcome = Ok event.Heartbeat; state = s; ladder = l }
  by_packet bs (Ok packet.ErrorNotification) = record { outcome = Ok event.ErrorNotification; state = s; ladder = l }
  by_packet bs (Ok (packet.Directory n)) = record { outcome = Ok (event.Directory n.value); state = s; ladder = l }

  abbrev pub by_letter : List ℕ → Result ℕ FormFault → Worked T
  by_letter bs (Err f) = refused (Form f)
  by_letter bs (Ok c) = cond (takes s c) (by_packet bs (v.layout c bs)) (refused NotTaken)

  -- a packet without its LF, by the numbers in their order
  abbrev pub worked : List ℕ → Worked T
  worked bs = by_letter bs (v.head bs)

-- where a stream stands between two packets
pub record Point (T : Type 0) : Type 0 where
  pub place : ℕ
  pub state : State
  pub ladder : List (Order T)

module _ {T : Type 0} (v : Rules T) (capacity : ℕ) where
  abbrev pub work : Point T → List ℕ → Worked T
  work at bs = worked v capacity at.state at.ladder bs

  abbrev pub reported : Point T → List ℕ → Report
  reported at bs = record { place = at.place; outcome = (work at bs).outcome }

  abbrev pub next : Point T → List ℕ → Point T
  next at bs = record { place = at.place + (length bs + 1); state = (work at bs).state; ladder = (work at bs).ladder }

  -- the point after packets, and their reports
  abbrev pub after : Point T → List (List ℕ) → Point T
  after at [] = at
  after at (p ∷ ps) = after (next at p) ps

  abbrev pub reports : Point T → List (List ℕ) → List Report
  reports at [] = []
  reports at (p ∷ ps) = reported at p ∷ reports (next at p) ps

-- the packets of a stream, each without its LF, where the first begins with bs
abbrev pub packets : List ℕ → List ℕ → List (List ℕ)
packets bs [] = []
packets bs (c ∷ cs) = cond (c == 10) (bs ∷ packets [] cs) (packets (bs ++ (c ∷ [])) cs)

-- the bytes after the last LF
abbrev pub left : List ℕ → List ℕ → List ℕ
left bs [] = bs
left bs (c ∷ cs) = cond (c == 10) (left [] cs) (left (bs ++ (c ∷ [])) cs)

-- a waiting session and an empty ladder
abbrev pub start : {T : Type 0} → Point T
start = record { place = 0; state = Waiting; ladder = [] }

-- what a stream means at a venue and a capacity: packets cut at each LF, worked in order from the start
module _ {T : Type 0} (v : Rules T) (capacity : ℕ) (stream : List ℕ) where
  abbrev pub reports_of : List Report
  reports_of = reports v capacity start (packets [] stream)

  abbrev pub point_of : Point T
  point_of = after v capacity start (packets [] stream)

-- What is known of a message that was read: a Modify without price has no replaced id; nothing repeats in a snapshot, and its
-- orders are of the pairs that it lists.
abbrev pub Sound : {T : Type 0} → Said T → Type 0
Sound (new o) = Unit {0}
Sound (modify x) = x.price ≡ None → x.replaced ≡ None
Sound (cancel x) = Unit {0}
Sound (listing ms) = Distinct ms × AllByRecursion (λ o. lists (pairs_listed ms) o.pair ≡ true) (orders_put ms)
Sound blank = Unit {0}
Sound trade = Unit {0}
Sound volume = Unit {0}

-- what a snapshot of the ladder l says
abbrev pub SaysLadder : {T : Type 0} → List (Order T) → Said T → Type 0
SaysLadder {T} l s = ((s ≡ blank) × (l ≡ [])) ⊎ ((ms : List (Mark T)) × (s ≡ listing ms) × (orders_put ms ≡ l))

-- A snapshot written is one packet without LF, is taken while open, and says the ladder.
pub record WrittenSo {T : Type 0} (v : Rules T) (time : List ℕ) (l : List (Order T)) : Type 0 where
  pub no_lf : NoLF (v.writes time l)
  pub short : length (v.writes time l) < 49152
  pub head : v.head (v.writes time l) ≡ Ok 83
  pub time_of : TimeOfDay
  pub layout : v.layout 83 (v.writes time l) ≡ Ok (packet.Sequenced time_of)
  pub said : Said T
  pub message : message_of v.form (drop 10 (v.writes time l)) ≡ Ok said
  pub says : SaysLadder l said

-- What a venue's rules keep.
pub record Lawful {T : Type 0} (v : Rules T) : Type 0 where
  -- over 49,152 bytes, LF included, is 11
  pub long : (bs : List ℕ) → 49152 ≤ length bs → v.head bs ≡ Err TooLong
  pub sound : (m : List ℕ) (s : Said T) → message_of v.form m ≡ Ok s → Sound s
  pub written : (time : List ℕ) (l : List (Order T)) → v.is_time time ≡ true → Ladder l → length l ≤ 512 → WrittenSo v time l
