-- What the tasks have after a run over the marks.
use Rattle.std.proofs.Common.{◌≡◌, true, ◌||◌, List, [], ◌∷◌, Some, Option, sym, refl, ap, ◌∙◌, subst, ap₂}
use Rattle.std.proofs.Math.Bool.{or_assoc, or-false}
use Rattle.fields.specs.Values.{Pair}
use Rattle.book.specs.Ladder.{same_pair}
use Rattle.snapshot.specs.declared.mark.Mark.{Mark}
use Rattle.snapshot.specs.declared.mark.Mark.TheVariants.{Lists, Puts}
use Rattle.snapshot.specs.Walked.{Runs}
use Rattle.snapshot.specs.Listing.{pairs_listed}
use Rattle.apply.specs.declared.tasks.Asked.{Asked}
use Rattle.apply.specs.Marks.{lists, Right, names}
use Rattle.apply.proofs.Keeping.{pair_one}

module _ {T : Type 0} where
  abbrev pub Seeks : Asked → Mark T → Asked → Type 0
  Seeks s k t = (t.pair ≡ s.pair) × (t.listed ≡ (s.listed || names s.pair k))

  named_first : (p : Pair) (k : Mark T) (ms : List (Mark T)) → (names p k || lists (pairs_listed ms) p) ≡ lists (pairs_listed (k ∷ ms)) p
  named_first p (Lists q c) ms = refl
  named_first p (Puts q o) ms = refl

  pub seek_runs : (s t : Asked) (ms : List (Mark T)) → Runs Seeks s ms t → t.listed ≡ (s.listed || lists (pairs_listed ms) s.pair)
  seek_runs s t [] h = ap (λ z. z.listed) h ∙ sym (or-false s.listed)
  seek_runs s t (k ∷ ms) h =
      seek_runs h.0 t ms h.2 ∙ ap₂ (λ a p. a || lists (pairs_listed ms) p) h.1.1 h.1.0
      ∙ or_assoc s.listed (names s.pair k) (lists (pairs_listed ms) s.pair) ∙ ap (λ b. s.listed || b) (named_first s.pair k ms)

-- the answer that was given last holds of the same pair
pub right_same : (ps : List Pair) (last : Option Asked) (a : Asked) (p : Pair) → last ≡ Some a → same_pair a.pair p ≡ true → Right ps last → a.listed ≡ lists ps p
right_same ps last a p e s r = subst (Right ps) e r ∙ ap (lists ps) (pair_one a.pair p s)
