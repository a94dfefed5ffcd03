-- The relations on packets have one answer at most.
use Rattle.std.proofs.Common.{◌≡◌, ℕ, List, Ok, Err, sym, refl, ap, ◌∙◌, subst, arith}
use Rattle.packet.specs.Letters.{Letter, code}
use Rattle.packet.specs.Layouts.{letter_of}
use Rattle.packet.specs.Faults.{Misfits, Malformed, Unlike}
use Rattle.packet.specs.Verdict.{Matches, Reads}
use Rattle.packet.specs.declared.packets.Packet.{Packet}
use Rattle.packet.specs.declared.packets.FormFault.{FormFault}
use Rattle.packet.specs.declared.packets.FormFault.TheVariants.{TooLong, Unprintable, NoLetter, WrongLength, BadField}
use Rattle.packet.proofs.Alike.{same_letter, shape_as}
use Rattle.packet.proofs.Apart.{row_fits, row_formed, misfits_formed, malformed_one}
use Rattle.packet.proofs.Forms.{same_row, form_laws}
use Rattle.forms.specs.Laws.{HeadTold}
use Rattle.forms.specs.Form.{Form}

-- Heads.
letter_or_fault : (bs : List ℕ) (c : ℕ) (f : FormFault) → HeadTold bs (Ok c) → HeadTold bs (Err f) → ⊥
letter_or_fault bs c TooLong a b = omega (arith, a.0, b.0)
letter_or_fault bs c (Unprintable at) a b = b.0.2 (a.1 at b.0.1)
letter_or_fault bs c NoLetter a b = b.0.2 a.3.0 (sym a.2 ∙ a.3.1)
letter_or_fault bs c WrongLength a b = omega (arith, b.1)
letter_or_fault bs c (BadField at) a b = omega (arith, b.1)

pub one_head : (bs : List ℕ) (r s : Form ℕ) → HeadTold bs r → HeadTold bs s → r ≡ s
one_head bs (Ok c) (Ok d) a b = ap Ok (a.2 ∙ sym b.2)
one_head bs (Ok c) (Err f) a b = absurd (letter_or_fault bs c f a b)
one_head bs (Err f) (Ok c) a b = absurd (letter_or_fault bs c f b a)
one_head bs (Err f) (Err g) a b = ap Err (form_laws.one_fault bs f g a.0 b.0)

-- Layouts.
module _ (c : ℕ) (bs : List ℕ) where
  packet_or_fault : (p : Packet) (f : FormFault) → Matches c bs (Ok p) → Unlike c bs f → ⊥
  packet_or_fault p TooLong m u = u
  packet_or_fault p (Unprintable at) m u = u
  packet_or_fault p NoLetter m u = u (letter_of p) m.0
  packet_or_fault p WrongLength m u = row_fits bs p m.1 (subst (λ l. Misfits l bs) (same_letter u.0 (letter_of p) c u.1 m.0) u.2)
  packet_or_fault p (BadField at) m u =
      row_formed bs p at m.1 (subst (λ l. Malformed l bs at) (same_letter u.0 (letter_of p) c u.1 m.0) u.2)

  -- what another field fault says of the letter of this one
  malformed_as : (l : Letter) (at : ℕ) → c ≡ code l → Unlike c bs (BadField at) → Malformed l bs at
  malformed_as l at e u = subst (λ m. Malformed m bs at) (same_letter u.0 l c u.1 e) u.2

  one_unlike : (f g : FormFault) → Unlike c bs f → Unlike c bs g → f ≡ g
  one_unlike TooLong g a b = absurd a
  one_unlike (Unprintable i) g a b = absurd a
  one_unlike NoLetter TooLong a b = absurd b
  one_unlike NoLetter (Unprintable j) a b = absurd b
  one_unlike NoLetter NoLetter a b = refl
  one_unlike NoLetter WrongLength a b = absurd (a b.0 b.1)
  one_unlike NoLetter (BadField j) a b = absurd (a b.0 b.1)
  one_unlike WrongLength TooLong a b = absurd b
  one_unlike WrongLength (Unprintable j) a b = absurd b
  one_unlike WrongLength NoLetter a b = absurd (b a.0 a.1)
  one_unlike WrongLength WrongLength a b = refl
  one_unlike WrongLength (BadField j) a b = absurd (misfits_formed a.0 bs j a.2 (malformed_as a.0 j a.1 b))
  one_unlike (BadField i) TooLong a b = absurd b
  one_unlike (BadField i) (Unprintable j) a b = absurd b
  one_unlike (BadField i) NoLetter a b = absurd (b a.0 a.1)
  one_unlike (BadField i) WrongLength a b = absurd (misfits_formed b.0 bs i b.2 (malformed_as b.0 i b.1 a))
  one_unlike (BadField i) (BadField j) a b = ap BadField (malformed_one a.0 bs i j a.2 (malformed_as a.0 j a.1 b))

  pub one_match : (r s : Form Packet) → Matches c bs r → Matches c bs s → r ≡ s
  one_match (Ok p) (Ok q) a b =
      ap Ok (same_row bs p q (shape_as (letter_of p) q (same_letter (letter_of p) (letter_of q) c a.0 b.0)) a.1 b.1)
  one_match (Ok p) (Err f) a b = absurd (packet_or_fault p f a b)
  one_match (Err f) (Ok p) a b = absurd (packet_or_fault p f b a)
  one_match (Err f) (Err g) a b = ap Err (one_unlike f g a b)

-- The whole.
pub one_reading : (bs : List ℕ) (r s : Form Packet) → Reads bs r → Reads bs s → r ≡ s
one_reading bs (Ok p) (Ok q) a b = ap Ok (form_laws.one_packet bs p q a b)
one_reading bs (Ok p) (Err f) a b = absurd (form_laws.refused bs f p b a)
one_reading bs (Err f) (Ok p) a b = absurd (form_laws.refused bs f p a b)
one_reading bs (Err f) (Err g) a b = ap Err (form_laws.one_fault bs f g a b)
