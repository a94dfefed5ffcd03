-- Which bytes lay out which packet. A packet is given by its bytes before the LF; its length counts the LF.
use Rattle.std.specs.Prelude.{◌≡◌, ℕ, ◌+◌, ◌*◌, ◌<◌, ◌≤◌, List, length, take, drop, slice_index, slice_index_or}
use Rattle.fields.specs.Bytes.{Printable}
use Rattle.fields.specs.Fields.{IntegerField, TimeField}
use Rattle.fields.specs.Forms.{Paired}
use Rattle.packet.specs.Letters.{Letter, accepted, rejected, sequenced, heartbeat, explained, directory, code}
use Rattle.packet.specs.declared.packets.Packet.{Packet}
use Rattle.packet.specs.declared.packets.Packet.TheVariants.{LoginAccepted, LoginRejected, EndOfSession, Sequenced, Heartbeat, ErrorNotification, Directory}

-- the packet's length, LF included
abbrev pub size : List ℕ → ℕ
size bs = length bs + 1

-- the field of `len` bytes at an offset
abbrev pub field : ℕ → ℕ → List ℕ → List ℕ
field at len bs = take len (drop at bs)

-- at most 49,152 bytes
abbrev pub Fits : List ℕ → Type 0
Fits bs = size bs ≤ 49152

-- each of the first n bytes is printable
abbrev pub PrintableTo : List ℕ → ℕ → Type 0
PrintableTo bs n = (i : ℕ) → i < n → Printable (slice_index bs i)

abbrev pub letter_of : Packet → Letter
letter_of (LoginAccepted n) = accepted
letter_of LoginRejected = rejected
letter_of EndOfSession = sequenced
letter_of (Sequenced t) = sequenced
letter_of Heartbeat = heartbeat
letter_of ErrorNotification = explained
letter_of (Directory n) = directory

-- the table of layouts: length and fields by their offsets
abbrev pub Row : List ℕ → Packet → Type 0
Row bs (LoginAccepted n) = (size bs ≡ 12) × IntegerField 10 (field 1 10 bs) n.value
Row bs LoginRejected = size bs ≡ 22
Row bs EndOfSession = size bs ≡ 2
Row bs (Sequenced t) = (12 ≤ size bs) × TimeField (field 1 9 bs) t.bytes
Row bs Heartbeat = size bs ≡ 2
Row bs ErrorNotification = size bs ≡ 102
Row bs (Directory n) =
    (size bs ≡ 6 + 7 * n.value)
    × IntegerField 4 (field 1 4 bs) n.value
    × ((k : ℕ) → k < n.value → Paired (field (5 + 7 * k) 7 bs))

-- bs lays out the packet p
pub record LaidOut (bs : List ℕ) (p : Packet) : Type 0 where
  pub fits : Fits bs
  pub printable : PrintableTo bs (length bs)
  pub letter : slice_index_or bs 0 0 ≡ code (letter_of p)
  pub row : Row bs p
