-- What the parts of the verdict tell.
use Rattle.std.proofs.Common.{◌≡◌, ℕ, ◌<◌, Bool, not, eqb, ltb, List, length, get_or, Some, None, Err, Decides, Option, sym, refl, ap, subst, arith}
use Rattle.std.specs.List.{position, position_or_len, range_with_len}
use Rattle.std.specs.Option.{ok_or}
use Rattle.std.proofs.lemmas.Bool.{cond_both, eqb-true, ltb-true, ltb-false, not-true, not-false}
use Rattle.std.proofs.lemmas.List.FromFn.{get_or-range_with_len, length-range_with_len}
use Rattle.std.proofs.lemmas.List.Sums.{fails_before_first, passes_at_first}
use Rattle.std.proofs.lemmas.Bool.Decides.{not_from_Decides}
use Rattle.fields.specs.Laws.{Codec}
use Rattle.readers.specs.Laws.{FieldLaw}
use Rattle.packet.specs.Letters.{Letter, accepted, rejected, sequenced, heartbeat, explained, directory, code}
use Rattle.packet.specs.Faults.{NotInForm}
use Rattle.packet.specs.declared.packets.FormFault.{FormFault}
use Rattle.forms.specs.Form.{Form, ◌▷◌, unless_at, letter_for}

-- a value that there is, or the fault
pub either_way : {A B : Type 0} (o : Option A) (fault : FormFault) (f : A → Form B) (P : Form B → Type 0)
    → (o ≡ None → P (Err fault)) → ((v : A) → o ≡ Some v → P (f v)) → P (ok_or o fault ▷ f)
either_way None fault f P none some = none refl
either_way (Some v) fault f P none some = some v refl

module _ {X : Type 0} (test : X → Bool) (Q : X → Type 0) (decides : (x : X) → Decides (test x) (Q x)) where
  -- all of a list pass, or the fault at the first that does not
  pub unless_first : {A : Type 0} (xs : List X) (d : X) (fault : ℕ → FormFault) (r : Form A) (P : Form A → Type 0)
      → (((i : ℕ) → i < length xs → Q (get_or xs i d)) → P r)
      → ((k : ℕ) → k < length xs → (Q (get_or xs k d) → ⊥) → ((i : ℕ) → i < k → Q (get_or xs i d)) → P (Err (fault k)))
      → P (unless_at fault (position (λ x. not (test x)) xs) r)
  unless_first xs d fault r P none some =
      let bad : X → Bool = λ x. not (test x) in
      let before : (i : ℕ) → i < position_or_len bad xs → Q (get_or xs i d) =
      λ i l. (decides (get_or xs i d)).0 (not-false _ (fails_before_first bad xs i d l)) in
      cond_both (ltb (position_or_len bad xs) (length xs)) _ _ (λ o. P (unless_at fault o r))
      (λ t. let l = ltb-true _ _ t in
      some (position_or_len bad xs) l (not_from_Decides _ (decides _) (not-true _ (passes_at_first bad xs d l))) before)
      (λ f. let n = ltb-false _ _ f in none (λ i l. before i (omega arith)))

-- all below n pass, or the fault at the first that does not
pub unless_below : {A : Type 0} (test : ℕ → Bool) (Q : ℕ → Type 0) → ((i : ℕ) → Decides (test i) (Q i))
    → (n : ℕ) (fault : ℕ → FormFault) (r : Form A) (P : Form A → Type 0)
    → (((i : ℕ) → i < n → Q i) → P r) → ((k : ℕ) → k < n → (Q k → ⊥) → ((i : ℕ) → i < k → Q i) → P (Err (fault k)))
    → P (unless_at fault (position (λ k. not (test k)) (range_with_len 0 n)) r)
unless_below test Q decides n fault r P none some =
    let long = length-range_with_len 0 n in
    let at : (i : ℕ) → i < n → get_or (range_with_len 0 n) i 0 ≡ i = λ i l. omega (arith, get_or-range_with_len 0 n i 0 l) in
    unless_first test Q decides (range_with_len 0 n) 0 fault r P
    (λ all. none (λ i l. subst Q (at i l) (all i (omega arith))))
    (λ k l bad before. let m : k < n = omega arith in
    some k m (λ q. bad (subst Q (sym (at k m)) q)) (λ i j. subst Q (at i (omega arith)) (before i j)))

-- the letter of a code is the only one that has it
abbrev Told : ℕ → Option Letter → Type 0
Told c None = Unit
Told c (Some l) = c ≡ code l

told : (c : ℕ) → Told c (letter_for c)
told c =
    cond_both (eqb c 65) _ _ (Told c) (eqb-true c 65) (λ _.
    cond_both (eqb c 74) _ _ (Told c) (eqb-true c 74) (λ _.
    cond_both (eqb c 83) _ _ (Told c) (eqb-true c 83) (λ _.
    cond_both (eqb c 72) _ _ (Told c) (eqb-true c 72) (λ _.
    cond_both (eqb c 69) _ _ (Told c) (eqb-true c 69) (λ _.
    cond_both (eqb c 82) _ _ (Told c) (eqb-true c 82) (λ _. tt))))))

letter_back : (l : Letter) → letter_for (code l) ≡ Some l
letter_back accepted = refl
letter_back rejected = refl
letter_back sequenced = refl
letter_back heartbeat = refl
letter_back explained = refl
letter_back directory = refl

pub letter_some : (c : ℕ) (l : Letter) → letter_for c ≡ Some l → c ≡ code l
letter_some c l e = subst (Told c) e (told c)

pub letter_none : (c : ℕ) → letter_for c ≡ None → (l : Letter) → c ≡ code l → ⊥
letter_none c e l h =
    cc (ap letter_for h, letter_back l)

-- bytes that are not read are no value's field
pub unread : {V X : Type 0} (w : ℕ) (Field : List ℕ → X → Type 0) (value : V → X) (text : V → List ℕ) (reads : List ℕ → Option V)
    → Codec w Field value text → FieldLaw w (λ bs v. Field bs (value v)) reads → (bs : List ℕ) → reads bs ≡ None → NotInForm (Field bs)
unread w Field value text reads codec law bs e x h =
    let m = codec.made bs x h in
    cc (law.complete bs m.0 (subst (Field bs) (sym m.1) h))
