-- The verdict that is worked out is the only one that the packet's relations allow.
use Rattle.std.specs.Prelude.{◌≡◌, ℕ, ◌≤◌, List, Ok, Err}
use Rattle.packet.specs.Faults.{number}
use Rattle.packet.specs.Verdict.{Headed, Matches, Reads, Exact}
use Rattle.packet.specs.declared.packets.Packet.{Packet}
use Rattle.forms.specs.Form.{Form, head_of, layout_of, form_of}

-- what the checks of length, bytes and letter tell: the letter, or a fault of theirs, 11, 12 or 13
abbrev pub HeadTold : List ℕ → Form ℕ → Type 0
HeadTold bs (Ok c) = Headed bs (Ok c)
HeadTold bs (Err f) = Headed bs (Err f) × (number f ≤ 13)

pub record VerdictLaws : Type 0 where
  -- the letter, or 11, 12 or 13
  pub head_is : (bs : List ℕ) (r : Form ℕ) → HeadTold bs r → r ≡ head_of bs
  pub head_so : (bs : List ℕ) → HeadTold bs (head_of bs)
  -- the packet of a letter, or 13, 15 or 16
  pub layout_is : (c : ℕ) (bs : List ℕ) (r : Form Packet) → Matches c bs r → r ≡ layout_of c bs
  pub layout_so : (c : ℕ) (bs : List ℕ) → Matches c bs (layout_of c bs)
  -- the whole
  pub form_is : (bs : List ℕ) (r : Form Packet) → Reads bs r → r ≡ form_of bs
  pub form_so : (bs : List ℕ) → Reads bs (form_of bs)
  -- a packet is answered exactly when the bytes lay it out
  pub laid_out : (bs : List ℕ) → Exact bs (form_of bs)
