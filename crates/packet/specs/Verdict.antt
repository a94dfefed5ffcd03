-- What the calls on packets answer, and the laws of the verdict.
use Rattle.std.specs.Prelude.{◌≡◌, ℕ, List, length, Ok, Err, Result, slice_index}
use Rattle.packet.specs.Letters.{Letter, code}
use Rattle.packet.specs.Layouts.{Fits, PrintableTo, letter_of, Row, LaidOut}
use Rattle.packet.specs.Faults.{Unlike, Faulty}
use Rattle.packet.specs.declared.packets.Packet.{Packet}
use Rattle.packet.specs.declared.packets.FormFault.{FormFault}

-- the letter is told if the checks of length, bytes and letter pass: 11, 12, 13
abbrev pub Headed : List ℕ → Result ℕ FormFault → Type 0
Headed bs (Ok c) = Fits bs × PrintableTo bs (length bs) × (c ≡ slice_index bs 0) × ((l : Letter) × (c ≡ code l))
Headed bs (Err f) = Faulty bs f

-- the packet of letter c that the bytes, with the letter, lay out, or the first check that fails: 13, 15, 16
abbrev pub Matches : ℕ → List ℕ → Result Packet FormFault → Type 0
Matches c bs (Ok p) = (c ≡ code (letter_of p)) × Row bs p
Matches c bs (Err f) = Unlike c bs f

-- the packet that the bytes lay out, or the first check that fails
abbrev pub Reads : List ℕ → Result Packet FormFault → Type 0
Reads bs (Ok p) = LaidOut bs p
Reads bs (Err f) = Faulty bs f

-- a packet passes exactly when the bytes lay it out
abbrev pub Exact : List ℕ → Result Packet FormFault → Type 0
Exact bs r = (p : Packet) → (r ≡ Ok p → LaidOut bs p) × (LaidOut bs p → r ≡ Ok p)

pub record FormLaws : Type 0 where
  -- bytes lay out one packet at most
  pub one_packet : (bs : List ℕ) (p q : Packet) → LaidOut bs p → LaidOut bs q → p ≡ q
  -- and have one fault at most
  pub one_fault : (bs : List ℕ) (f g : FormFault) → Faulty bs f → Faulty bs g → f ≡ g
  -- never both
  pub refused : (bs : List ℕ) (f : FormFault) (p : Packet) → Faulty bs f → LaidOut bs p → ⊥
