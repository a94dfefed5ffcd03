-- Examples of packets, as facts about the definitions. A packet is given by its bytes before the LF.
use Rattle.std.specs.Prelude.{[], codes}
use Rattle.packet.specs.Layouts.{LaidOut}
use Rattle.packet.specs.Faults.{Faulty}
use Rattle.packet.specs.declared.packets.Packet.{Packet}
use Rattle.packet.specs.declared.packets.Packet.TheVariants.{EndOfSession, Heartbeat}
use Rattle.packet.specs.declared.packets.FormFault.TheVariants.{NoLetter, WrongLength, BadField}

pub record PacketSamples : Type 0 where
  -- a login has nine spaces before its digit; with eight its length is wrong
  pub login : (p : Packet) × LaidOut (codes "A         1") p
  pub short_login : Faulty (codes "A        1") WrongLength
  -- S and the LF end the session
  pub end : LaidOut (codes "S") EndOfSession
  pub heartbeat : LaidOut (codes "H") Heartbeat
  -- the LF alone, and a letter that no packet has
  pub nothing : Faulty [] NoLetter
  pub no_letter : Faulty (codes "Q") NoLetter
  -- the second of two pairs stands at offset 12
  pub bad_pair : Faulty (codes "R   2EUR/USDusd/JPY") (BadField 12)
