-- Integers: spaces and then digits to the end.
use Rattle.std.proofs.Common.{◌≡◌, ℕ, zero, suc, ◌+◌, ◌<◌, ◌≤◌, List, [], ◌∷◌, ◌++◌, length, get_or, take, drop, sym, refl, ap, ◌∙◌, subst, arith}
use Rattle.std.specs.List.{AllByRecursion}
use Rattle.std.proofs.lemmas.List.{take_at, append-nil, take-append-drop, length-drop, length-append}
use Rattle.digits.specs.Bytes.{Digit, Space}
use Rattle.digits.specs.Numerals.{front, read_on, Whole}
use Rattle.digits.proofs.Fronts.{front-append}

strip : (gap figures : List ℕ) (at : ℕ) → AllByRecursion Space gap → AllByRecursion Digit figures → 0 < length figures → AllByRecursion Space (take at (gap ++ figures)) → (at < length (gap ++ figures) → get_or (gap ++ figures) at 0 ≡ 32 → ⊥) → drop at (gap ++ figures) ≡ figures
strip [] figures zero g d some t stop = refl
strip [] [] (suc at) g d some t stop = absurd (omega arith)
strip [] (f ∷ fs) (suc at) g d some t stop = let e = t.0 in let k = d.0 in absurd (omega arith)
strip (c ∷ cs) figures zero g d some t stop = absurd (stop (omega arith) g.0)
strip (c ∷ cs) figures (suc at) g d some t stop = strip cs figures at g.1 d some t.1 (λ l e. stop (omega arith) e)

-- what is left after the spaces are the figures
pub whole_rest : (bs : List ℕ) (at n : ℕ) → AllByRecursion Space (take at bs) → (at < length bs → get_or bs at 0 ≡ 32 → ⊥) → (w : Whole bs n) → drop at bs ≡ w.figures
whole_rest bs at n s stop w =
    subst (λ l. AllByRecursion Space (take at l) → (at < length l → get_or l at 0 ≡ 32 → ⊥) → drop at l ≡ w.figures) (sym w.form)
    (λ t p. strip w.gap w.figures at w.gap_spaces w.figures_digits w.figures_some t p) s stop

pub whole_figures : (bs : List ℕ) (at n : ℕ) → AllByRecursion Space (take at bs) → (at < length bs → get_or bs at 0 ≡ 32 → ⊥) → Whole bs n → (0 < length (drop at bs)) × AllByRecursion Digit (drop at bs)
whole_figures bs at n s stop w =
    subst (λ l. (0 < length l) × AllByRecursion Digit l) (sym (whole_rest bs at n s stop w)) (w.figures_some, w.figures_digits)

pub whole_ends : (bs : List ℕ) (at n : ℕ) → AllByRecursion Space (take at bs) → (at < length bs → get_or bs at 0 ≡ 32 → ⊥) → at ≤ length bs → Whole bs n → (0 < length (front (drop at bs))) × (at + length (front (drop at bs)) ≡ length bs)
whole_ends bs at n s stop l w =
    let f = whole_figures bs at n s stop w in
    let e : front (drop at bs) ≡ drop at bs = ap front (sym (append-nil (drop at bs))) ∙ front-append (drop at bs) [] f.1 refl in
    (omega (arith, ap length e, f.0), omega (arith, ap length e, length-drop at bs))

pub whole_made : (bs : List ℕ) (at n : ℕ) → AllByRecursion Space (take at bs) → 0 < length (drop at bs) → AllByRecursion Digit (drop at bs) → n ≡ read_on 0 (drop at bs) → Whole bs n
whole_made bs at n s some d is =
    record { gap = take at bs; figures = drop at bs; form = sym (take-append-drop at bs); gap_spaces = s; figures_digits = d; figures_some = some; count = is }

pub whole_some : (bs : List ℕ) (n : ℕ) → Whole bs n → 0 < length bs
whole_some bs n w = omega (arith, w.figures_some, ap length w.form, length-append w.gap w.figures)

gap_front : (gap figures : List ℕ) → AllByRecursion Space gap → AllByRecursion Space (take (length gap) (gap ++ figures))
gap_front gap figures s = subst (AllByRecursion Space) (sym (take_at gap figures (length gap) refl)) s

gap_stops : (gap figures : List ℕ) → AllByRecursion Digit figures → 0 < length figures → get_or (gap ++ figures) (length gap) 0 ≡ 32 → ⊥
gap_stops [] [] d some e = omega arith
gap_stops [] (f ∷ fs) d some e = let k = d.0 in omega arith
gap_stops (c ∷ cs) figures d some e = gap_stops cs figures d some e

-- bytes hold one integer at most
pub one_whole : (bs : List ℕ) (m n : ℕ) → Whole bs m → Whole bs n → m ≡ n
one_whole bs m n a b =
    let at = length a.gap in
    let s : AllByRecursion Space (take at bs) = subst (λ l. AllByRecursion Space (take at l)) (sym a.form) (gap_front a.gap a.figures a.gap_spaces) in
    let stop : at < length bs → get_or bs at 0 ≡ 32 → ⊥ = λ _ e. gap_stops a.gap a.figures a.figures_digits a.figures_some (ap (λ l. get_or l at 0) (sym a.form) ∙ e) in
    a.count ∙ ap (read_on 0) (sym (whole_rest bs at m s stop a) ∙ whole_rest bs at n s stop b) ∙ sym b.count
