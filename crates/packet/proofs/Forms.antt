-- The laws of the verdict: one packet or one fault, never both.
use Rattle.std.proofs.Common.{◌≡◌, ℕ, List, get_or, Ok, Err, Result, sym, refl, ap, ◌∙◌, subst, ⊎_elim, arith}
use Rattle.fields.specs.Bytes.{Printable}
use Rattle.fields.proofs.Codecs.{integer_codec, time_codec}
use Rattle.packet.specs.Layouts.{field, letter_of, Row, LaidOut}
use Rattle.packet.specs.Faults.{Unlike, Faulty, Misfits, Malformed}
use Rattle.packet.specs.Verdict.{Headed, Matches, Reads, Exact, FormLaws}
use Rattle.packet.specs.declared.packets.Packet.{Packet}
use Rattle.packet.specs.declared.packets.Packet.TheVariants.{LoginAccepted, LoginRejected, EndOfSession, Sequenced, Heartbeat, ErrorNotification, Directory}
use Rattle.packet.specs.declared.packets.FormFault.{FormFault}
use Rattle.packet.specs.declared.packets.FormFault.TheVariants.{TooLong, Unprintable, NoLetter, WrongLength, BadField}
use Rattle.packet.proofs.Alike.{same_letter, Shape, shape_as}
use Rattle.packet.proofs.Apart.{row_fits, row_formed, misfits_formed, malformed_one, first_one}

-- rows of one letter are of one packet
pub same_row : (bs : List ℕ) (p q : Packet) → Shape (letter_of p) q → Row bs p → Row bs q → p ≡ q
same_row bs (LoginAccepted n) q s a b =
    let r : Row bs (LoginAccepted s.0) = subst (Row bs) s.1 b in
    ap LoginAccepted ((integer_codec 10).same n s.0 ((integer_codec 10).one (field 1 10 bs) _ _ a.1 r.1)) ∙ sym s.1
same_row bs LoginRejected q s a b = sym s
same_row bs EndOfSession q s a b =
    ⊎_elim (λ e. sym e) (λ e. let r : Row bs (Sequenced e.0) = subst (Row bs) e.1 b in absurd (omega (arith, a, r.0))) s
same_row bs (Sequenced t) q s a b =
    ⊎_elim
    (λ e. let r : Row bs EndOfSession = subst (Row bs) e b in absurd (omega (arith, a.0, r)))
    (λ e.
    let r : Row bs (Sequenced e.0) = subst (Row bs) e.1 b in
    ap Sequenced (time_codec.same t e.0 (time_codec.one (field 1 9 bs) _ _ a.1 r.1)) ∙ sym e.1)
    s
same_row bs Heartbeat q s a b = sym s
same_row bs ErrorNotification q s a b = sym s
same_row bs (Directory n) q s a b =
    let r : Row bs (Directory s.0) = subst (Row bs) s.1 b in
    ap Directory ((integer_codec 4).same n s.0 ((integer_codec 4).one (field 1 4 bs) _ _ a.1 r.1)) ∙ sym s.1

one_packet : (bs : List ℕ) (p q : Packet) → LaidOut bs p → LaidOut bs q → p ≡ q
one_packet bs p q a b = same_row bs p q (shape_as (letter_of p) q (same_letter (letter_of p) (letter_of q) _ a.letter b.letter)) a.row b.row

refused : (bs : List ℕ) (f : FormFault) (p : Packet) → Faulty bs f → LaidOut bs p → ⊥
refused bs TooLong p a b = omega (arith, a, b.fits)
refused bs (Unprintable at) p a b = a.2 (b.printable at a.1)
refused bs NoLetter p a b = a.2 (letter_of p) b.letter
refused bs WrongLength p a b =
    let u = a.2 in
    row_fits bs p b.row (subst (λ l. Misfits l bs) (same_letter u.0 (letter_of p) _ u.1 b.letter) u.2)
refused bs (BadField at) p a b =
    let u = a.2 in
    row_formed bs p at b.row (subst (λ l. Malformed l bs at) (same_letter u.0 (letter_of p) _ u.1 b.letter) u.2)

-- two faults of one letter
length_field : (bs : List ℕ) (at : ℕ) → Unlike (get_or bs 0 0) bs WrongLength → Unlike (get_or bs 0 0) bs (BadField at) → ⊥
length_field bs at a b = misfits_formed a.0 bs at a.2 (subst (λ l. Malformed l bs at) (same_letter b.0 a.0 _ b.1 a.1) b.2)

one_fault : (bs : List ℕ) (f g : FormFault) → Faulty bs f → Faulty bs g → f ≡ g
one_fault bs TooLong TooLong a b = refl
one_fault bs TooLong (Unprintable j) a b = absurd (omega (arith, a, b.0))
one_fault bs TooLong NoLetter a b = absurd (omega (arith, a, b.0))
one_fault bs TooLong WrongLength a b = absurd (omega (arith, a, b.0))
one_fault bs TooLong (BadField j) a b = absurd (omega (arith, a, b.0))
one_fault bs (Unprintable i) TooLong a b = absurd (omega (arith, b, a.0))
one_fault bs (Unprintable i) (Unprintable j) a b = ap Unprintable (first_one (λ k. Printable (get_or bs k 0)) i j a.2 a.3 b.2 b.3)
one_fault bs (Unprintable i) NoLetter a b = absurd (a.2 (b.1 i a.1))
one_fault bs (Unprintable i) WrongLength a b = absurd (a.2 (b.1 i a.1))
one_fault bs (Unprintable i) (BadField j) a b = absurd (a.2 (b.1 i a.1))
one_fault bs NoLetter TooLong a b = absurd (omega (arith, b, a.0))
one_fault bs NoLetter (Unprintable j) a b = absurd (b.2 (a.1 j b.1))
one_fault bs NoLetter NoLetter a b = refl
one_fault bs NoLetter WrongLength a b = absurd (a.2 b.2.0 b.2.1)
one_fault bs NoLetter (BadField j) a b = absurd (a.2 b.2.0 b.2.1)
one_fault bs WrongLength TooLong a b = absurd (omega (arith, b, a.0))
one_fault bs WrongLength (Unprintable j) a b = absurd (b.2 (a.1 j b.1))
one_fault bs WrongLength NoLetter a b = absurd (b.2 a.2.0 a.2.1)
one_fault bs WrongLength WrongLength a b = refl
one_fault bs WrongLength (BadField j) a b = absurd (length_field bs j a.2 b.2)
one_fault bs (BadField i) TooLong a b = absurd (omega (arith, b, a.0))
one_fault bs (BadField i) (Unprintable j) a b = absurd (b.2 (a.1 j b.1))
one_fault bs (BadField i) NoLetter a b = absurd (b.2 a.2.0 a.2.1)
one_fault bs (BadField i) WrongLength a b = absurd (length_field bs i b.2 a.2)
one_fault bs (BadField i) (BadField j) a b =
    let u = a.2 in
    let v = b.2 in
    ap BadField (malformed_one u.0 bs i j u.2 (subst (λ l. Malformed l bs j) (same_letter v.0 u.0 _ v.1 u.1) v.2))

pub form_laws : FormLaws
form_laws = record { one_packet = one_packet; one_fault = one_fault; refused = refused }

-- a packet passes exactly when it is laid out
pub exact_from_reads : (bs : List ℕ) (r : Result Packet FormFault) → Reads bs r → Exact bs r
exact_from_reads bs (Ok q) h p = (λ e. let s : q ≡ p = cc in subst (LaidOut bs) s h, λ l. ap Ok (one_packet bs q p h l))
exact_from_reads bs (Err f) h p = (λ e. let z : ◌≡◌ {A = ℕ} 0 1 = cc in absurd (omega arith), λ l. absurd (refused bs f p h l))

-- the head and the layout together
pub reads_from_matches : (bs : List ℕ) (c : ℕ) (r : Result Packet FormFault) → Headed bs (Ok c) → Matches c bs r → Reads bs r
reads_from_matches bs c (Ok p) h m = record { fits = h.0; printable = h.1; letter = sym h.2 ∙ m.0; row = m.1 }
reads_from_matches bs c (Err TooLong) h m = absurd m
reads_from_matches bs c (Err (Unprintable at)) h m = absurd m
reads_from_matches bs c (Err NoLetter) h m = (h.0, h.1, λ l e. m l (h.2 ∙ e))
reads_from_matches bs c (Err WrongLength) h m = (h.0, h.1, (m.0, sym h.2 ∙ m.1, m.2))
reads_from_matches bs c (Err (BadField at)) h m = (h.0, h.1, (m.0, sym h.2 ∙ m.1, m.2))
