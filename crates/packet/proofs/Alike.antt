-- Letters and packets told apart.
use Rattle.std.proofs.Common.{◌≡◌, ℕ, cond, eqb, ◌⊎◌, sym, refl, ap, ◌∙◌, subst, inl, inr}
use Rattle.fields.specs.declared.integers.Integer.{Integer}
use Rattle.fields.specs.Values.{TimeOfDay}
use Rattle.packet.specs.Letters.{Letter, accepted, rejected, sequenced, heartbeat, explained, directory, code}
use Rattle.packet.specs.Layouts.{letter_of}
use Rattle.packet.specs.declared.packets.Packet.{Packet}
use Rattle.packet.specs.declared.packets.Packet.TheVariants.{LoginAccepted, LoginRejected, EndOfSession, Sequenced, Heartbeat, ErrorNotification, Directory}

-- the letter of a code
letter_at : ℕ → Letter
letter_at c =
    cond (eqb c 65) accepted (cond (eqb c 74) rejected (cond (eqb c 83) sequenced (cond (eqb c 72) heartbeat (cond (eqb c 69) explained directory))))

letter_back : (l : Letter) → letter_at (code l) ≡ l
unfolding letter_at
letter_back accepted = refl
letter_back rejected = refl
letter_back sequenced = refl
letter_back heartbeat = refl
letter_back explained = refl
letter_back directory = refl

-- letters of one code are the same
pub same_letter : (l m : Letter) (c : ℕ) → c ≡ code l → c ≡ code m → l ≡ m
same_letter l m c a b = sym (letter_back l) ∙ ap letter_at (sym a ∙ b) ∙ letter_back m

-- the six codes are of letters
pub told_by_code : (c : ℕ) → (c ≡ 65) ⊎ ((c ≡ 69) ⊎ ((c ≡ 72) ⊎ ((c ≡ 74) ⊎ ((c ≡ 82) ⊎ (c ≡ 83))))) → (l : Letter) × (c ≡ code l)
told_by_code c (inl e) = (accepted, e)
told_by_code c (inr (inl e)) = (explained, e)
told_by_code c (inr (inr (inl e))) = (heartbeat, e)
told_by_code c (inr (inr (inr (inl e)))) = (rejected, e)
told_by_code c (inr (inr (inr (inr (inl e))))) = (directory, e)
told_by_code c (inr (inr (inr (inr (inr e))))) = (sequenced, e)

-- the packets of a letter
abbrev pub Shape : Letter → Packet → Type 0
Shape accepted p = (n : Integer 10) × (p ≡ LoginAccepted n)
Shape rejected p = p ≡ LoginRejected
Shape sequenced p = (p ≡ EndOfSession) ⊎ ((t : TimeOfDay) × (p ≡ Sequenced t))
Shape heartbeat p = p ≡ Heartbeat
Shape explained p = p ≡ ErrorNotification
Shape directory p = (n : Integer 4) × (p ≡ Directory n)

shape : (p : Packet) → Shape (letter_of p) p
shape (LoginAccepted n) = (n, refl)
shape LoginRejected = refl
shape EndOfSession = inl refl
shape (Sequenced t) = inr (t, refl)
shape Heartbeat = refl
shape ErrorNotification = refl
shape (Directory n) = (n, refl)

pub shape_as : (l : Letter) (p : Packet) → l ≡ letter_of p → Shape l p
shape_as l p e = subst (λ m. Shape m p) (sym e) (shape p)
