-- What a letter's checks exclude.
use Rattle.std.proofs.Common.{◌≡◌, ℕ, ◌+◌, ◌*◌, ◌<◌, List, sym, ap, ◌∙◌, ⊎_elim, arith}
use Rattle.std.proofs.lemmas.Bool.{cases_lt}
use Rattle.fields.specs.Forms.{Paired}
use Rattle.fields.proofs.Codecs.{integer_codec}
use Rattle.packet.specs.Letters.{Letter, accepted, rejected, sequenced, heartbeat, explained, directory}
use Rattle.packet.specs.Layouts.{field, letter_of, Row}
use Rattle.packet.specs.Faults.{Says, Misfits, Malformed}
use Rattle.packet.specs.declared.packets.Packet.{Packet}
use Rattle.packet.specs.declared.packets.Packet.TheVariants.{LoginAccepted, LoginRejected, EndOfSession, Sequenced, Heartbeat, ErrorNotification, Directory}

-- the first number at which P fails is one
pub first_one : (P : ℕ → Type 0) (j k : ℕ) → (P j → ⊥) → ((i : ℕ) → i < j → P i) → (P k → ⊥) → ((i : ℕ) → i < k → P i) → j ≡ k
first_one P j k nj bj nk bk =
    ⊎_elim (λ l. absurd (nj (bk j l))) (λ l. ⊎_elim (λ g. absurd (nk (bj k g))) (λ g. omega arith) (cases_lt k j)) (cases_lt j k)

-- a directory says one number
says_one : (bs : List ℕ) (m n : ℕ) → Says bs m → Says bs n → m ≡ n
says_one bs m n a b = (integer_codec 4).one (field 1 4 bs) m n a b

-- no row has a length that its letter has not
pub row_fits : (bs : List ℕ) (p : Packet) → Row bs p → Misfits (letter_of p) bs → ⊥
row_fits bs (LoginAccepted n) r h = h r.0
row_fits bs LoginRejected r h = h r
row_fits bs EndOfSession r h = h.0 r
row_fits bs (Sequenced t) r h = omega (arith, r.0, h.1)
row_fits bs Heartbeat r h = h r
row_fits bs ErrorNotification r h = h r
row_fits bs (Directory n) r h =
    ⊎_elim (λ l. omega (arith, l, r.0)) (λ w. w.3 (r.0 ∙ ap (λ m. 6 + 7 * m) (says_one bs n.value w.0 r.1 w.2))) h

-- nor a field that is not in form
pub row_formed : (bs : List ℕ) (p : Packet) (at : ℕ) → Row bs p → Malformed (letter_of p) bs at → ⊥
row_formed bs (LoginAccepted n) at r h = h.2 n.value r.1
row_formed bs LoginRejected at r h = h
row_formed bs EndOfSession at r h = omega (arith, r, h.1)
row_formed bs (Sequenced t) at r h = h.2 t.bytes r.1
row_formed bs Heartbeat at r h = h
row_formed bs ErrorNotification at r h = h
row_formed bs (Directory n) at r h =
    ⊎_elim (λ a. a.2 n.value r.1) (λ w. w.6 (r.2 w.1 (omega (arith, w.5, says_one bs n.value w.0 r.1 w.3)))) h

-- a length fault and a field fault exclude each other
pub misfits_formed : (l : Letter) (bs : List ℕ) (at : ℕ) → Misfits l bs → Malformed l bs at → ⊥
misfits_formed accepted bs at a b = a b.1
misfits_formed rejected bs at a b = b
misfits_formed sequenced bs at a b = omega (arith, a.1, b.1)
misfits_formed heartbeat bs at a b = b
misfits_formed explained bs at a b = b
misfits_formed directory bs at a b =
    ⊎_elim
    (λ l. ⊎_elim (λ x. omega (arith, l, x.1)) (λ x. omega (arith, l, x.4)) b)
    (λ w. ⊎_elim (λ x. x.2 w.0 w.2) (λ x. w.3 (x.4 ∙ ap (λ m. 6 + 7 * m) (says_one bs x.0 w.0 x.3 w.2))) b)
    a

-- the first field that is not in form is one
pub malformed_one : (l : Letter) (bs : List ℕ) (i j : ℕ) → Malformed l bs i → Malformed l bs j → i ≡ j
malformed_one accepted bs i j a b = omega (arith, a.0, b.0)
malformed_one rejected bs i j a b = absurd a
malformed_one sequenced bs i j a b = omega (arith, a.0, b.0)
malformed_one heartbeat bs i j a b = absurd a
malformed_one explained bs i j a b = absurd a
malformed_one directory bs i j a b =
    ⊎_elim
    (λ x. ⊎_elim (λ y. omega (arith, x.0, y.0)) (λ y. absurd (x.2 y.0 y.3)) b)
    (λ x. ⊎_elim (λ y. absurd (y.2 x.0 x.3)) (λ y. x.2 ∙ ap (λ k. 5 + 7 * k) (first_one (λ k. Paired (field (5 + 7 * k) 7 bs)) x.1 y.1 x.6 x.7 y.6 y.7) ∙ sym y.2) b)
    a
