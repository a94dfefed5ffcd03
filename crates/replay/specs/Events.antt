-- What the log says of a packet.
use Rattle.std.specs.Prelude.{◌≡◌, ℕ, List, ◌++◌, Some, None, Ok, Err, Option, Result, slice_index, codes, decimal, encode_utf8}
use Rattle.packet.specs.Layouts.{LaidOut}
use Rattle.packet.specs.Faults.{Faulty, number, offset}
use Rattle.packet.specs.declared.packets.Packet.{Packet}
use Rattle.packet.specs.declared.packets.Packet.TheVariants as packet
use Rattle.packet.specs.declared.packets.FormFault.{FormFault}
use Rattle.packet.specs.declared.packets.FormFault.TheVariants.{TooLong}
use Rattle.replay.specs.declared.events.Event.{Event}
use Rattle.replay.specs.declared.events.Event.TheVariants as event
use Rattle.replay.specs.declared.events.Report.{Report}

-- the packet's kind, with the number of pairs of a directory and the first byte of a message
abbrev pub packet_event : Packet → List ℕ → Event
packet_event (packet.LoginAccepted n) bs = event.LoginAccepted
packet_event packet.LoginRejected bs = event.LoginRejected
packet_event packet.EndOfSession bs = event.EndOfSession
packet_event (packet.Sequenced t) bs = event.Message (slice_index bs 10)
packet_event packet.Heartbeat bs = event.Heartbeat
packet_event packet.ErrorNotification bs = event.ErrorNotification
packet_event (packet.Directory n) bs = event.Directory n.value

-- the event of the packet that the bytes lay out, or the first check that fails; no bytes are those of a packet too long to be held
abbrev pub Reported : Option (List ℕ) → Result Event FormFault → Type 0
Reported None (Ok e) = ⊥
Reported None (Err f) = f ≡ TooLong
Reported (Some bs) (Ok e) = (p : Packet) × LaidOut bs p × (e ≡ packet_event p bs)
Reported (Some bs) (Err f) = Faulty bs f

-- the event as it is printed
abbrev pub event_text : Event → List ℕ
event_text event.LoginAccepted = codes "A"
event_text event.LoginRejected = codes "J"
event_text event.Heartbeat = codes "H"
event_text event.ErrorNotification = codes "E"
event_text event.EndOfSession = codes "end"
event_text (event.Directory pairs) = codes "R " ++ decimal pairs
event_text (event.Message letter) = codes "S " ++ encode_utf8 letter

-- what is printed of a packet behind its place
abbrev pub outcome_text : Result Event FormFault → List ℕ
outcome_text (Ok e) = event_text e
outcome_text (Err f) = codes "fault " ++ (decimal (number f) ++ (codes " packet " ++ decimal (offset f)))

-- the line of a packet, without its LF
abbrev pub report_text : Report → List ℕ
report_text r = decimal r.place ++ (codes " " ++ outcome_text r.outcome)
