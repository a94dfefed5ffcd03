-- What a chain of readings tells, field by field.
use Rattle.std.proofs.Common.{◌≡◌, ℕ, ◌+◌, ◌≤◌, Bool, true, false, cond, eqb, List, [], ◌∷◌, length, is_some, Some, None, Ok, Err, Option, Result, sym, refl, ap, subst, eqb-true}
use borrow.Author.Tests.{eqb-false}
use Rattle.venue.specs.Form as venue
use Rattle.message.specs.declared.fault.MessageFault.TheVariants.{NoLetter, WrongLength, BadField, Unpriced, Miscounted, Repeated, Book}
use Rattle.message.specs.Reading.{Reading, ◌▷◌, field, value_at, tail_at, sized}
use Rattle.message.specs.Checks.{Check, FirstBad, Tells, of_field, of_tail, by_venue}
use Rattle.message.proofs.Readings.{value_formed, value_unformed, tail_formed, tail_unformed}

module _ {A : Type 0} (Lacks : ℕ → Type 0) (Row : A → Type 0) where
  -- the same, where the length is right
  abbrev pub Outcome : List Check → Reading A → Type 0
  Outcome cs (Ok v) = Row v
  Outcome cs (Err NoLetter) = ⊥
  Outcome cs (Err WrongLength) = ⊥
  Outcome cs (Err (BadField p)) = FirstBad cs p
  Outcome cs (Err (Unpriced p)) = Lacks p
  Outcome cs (Err (Miscounted p)) = ⊥
  Outcome cs (Err (Repeated p)) = ⊥
  Outcome cs (Err (Book r)) = ⊥

  later : (c : Check) (cs : List Check) (p : ℕ) → c.passes ≡ true → FirstBad cs p → FirstBad (c ∷ cs) p
  later c cs p h b = record { front = c ∷ b.front; bad = b.bad; back = b.back; split = ap (λ x. c ∷ x) b.split; passed = (h, b.passed); fails = b.fails; offset = b.offset }

  pub weaken : (c : Check) (cs : List Check) (r : Reading A) → c.passes ≡ true → Outcome cs r → Outcome (c ∷ cs) r
  weaken c cs (Ok v) h o = o
  weaken c cs (Err NoLetter) h o = o
  weaken c cs (Err WrongLength) h o = o
  weaken c cs (Err (BadField p)) h o = later c cs p h o
  weaken c cs (Err (Unpriced p)) h o = o
  weaken c cs (Err (Miscounted p)) h o = o
  weaken c cs (Err (Repeated p)) h o = o
  weaken c cs (Err (Book r)) h o = o

  stops : (c : Check) (cs : List Check) (p : ℕ) → c.passes ≡ false → c.at ≡ p → FirstBad (c ∷ cs) p
  stops c cs p h e = record { front = []; bad = c; back = cs; split = refl; passed = tt; fails = h; offset = e }

  module _ (m : List ℕ) where
    -- first a field, and then what follows it
    pub outcome_field : {B : Type 0} (w : ℕ) (f : List ℕ → Option B) (p : ℕ) (cs : List Check) (k : B → Reading A)
        → p + w ≤ length m → ((v : B) → f (field p w m) ≡ Some v → Outcome cs (k v)) → Outcome (of_field m w f p ∷ cs) (value_at m w f p ▷ k)
    outcome_field {B} w f p cs k h next = by (f (field p w m)) refl
      where
        by : (o : Option B) → f (field p w m) ≡ o → Outcome (of_field m w f p ∷ cs) (value_at m w f p ▷ k)
        by (Some v) e = subst (λ x. Outcome (of_field m w f p ∷ cs) (x ▷ k)) (sym (value_formed m w f p v h e)) (weaken (of_field m w f p) cs (k v) (ap is_some e) (next v e))
        by None e = subst (λ x. Outcome (of_field m w f p ∷ cs) (x ▷ k)) (sym (value_unformed m w f p h e)) (stops (of_field m w f p) cs p (ap is_some e) refl)

    -- first the tail, and then what follows it
    pub outcome_tail : {T : Type 0} (F : venue.Form T) (p : ℕ) (cs : List Check) (k : T → Reading A)
        → p + F.width ≤ length m → ((t : T) → F.reads (field p F.width m) ≡ Ok t → Outcome cs (k t)) → Outcome (of_tail F m p ∷ cs) (tail_at F m p ▷ k)
    outcome_tail {T} F p cs k h next = by (F.reads (field p F.width m)) refl
      where
        by : (o : Result T ℕ) → F.reads (field p F.width m) ≡ o → Outcome (of_tail F m p ∷ cs) (tail_at F m p ▷ k)
        by (Ok t) e = subst (λ x. Outcome (of_tail F m p ∷ cs) (x ▷ k)) (sym (tail_formed F m p t h e)) (weaken (of_tail F m p) cs (k t) (ap (λ o. (by_venue p o).passes) e) (next t e))
        by (Err j) e = subst (λ x. Outcome (of_tail F m p ∷ cs) (x ▷ k)) (sym (tail_unformed F m p j h e)) (stops (of_tail F m p) cs (p + j) (ap (λ o. (by_venue p o).passes) e) (ap (λ o. (by_venue p o).at) e))

    -- with the length in front
    pub told : (n : ℕ) (cs : List Check) (r : Reading A) → length m ≡ n → Outcome cs r → Tells n cs Lacks Row m r
    told n cs (Ok v) h o = o
    told n cs (Err NoLetter) h o = o
    told n cs (Err WrongLength) h o = absurd o
    told n cs (Err (BadField p)) h o = (h, o)
    told n cs (Err (Unpriced p)) h o = (h, o)
    told n cs (Err (Miscounted p)) h o = o
    told n cs (Err (Repeated p)) h o = o
    told n cs (Err (Book r)) h o = o

    pub sized_told : (n : ℕ) (cs : List Check) (r : Reading A) → (length m ≡ n → Outcome cs r) → Tells n cs Lacks Row m (sized m n r)
    sized_told n cs r next = by (eqb (length m) n) refl
      where
        by : (b : Bool) → eqb (length m) n ≡ b → Tells n cs Lacks Row m (cond b r (Err WrongLength))
        by true e = let h = eqb-true (length m) n e in told n cs r h (next h)
        by false e = eqb-false (length m) n e

-- one after another, however grouped
pub regroup : {A B C : Type 0} (x : Reading A) (f : A → Reading B) (g : B → Reading C) → (x ▷ f) ▷ g ≡ (x ▷ λ v. f v ▷ g)
regroup (Ok v) f g = refl
regroup (Err e) f g = refl

-- where the row is told, the reading that gave it is of that row
pub told_row : {A : Type 0} (n : ℕ) (cs : List Check) (Lacks : ℕ → Type 0) (Row : A → Type 0) (m : List ℕ) (r : Reading A) (v : A) → Tells n cs Lacks Row m r → r ≡ Ok v → Row v
told_row n cs Lacks Row m r v t e = subst (λ x. Tells n cs Lacks Row m x) e t
