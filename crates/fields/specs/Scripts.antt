-- The kinds of texts on the line keep the laws of a kind.
use Rattle.std.specs.Prelude.{ℕ, ◌+◌, ◌-◌, ◌<◌, ◌≡◌, List, [], ◌∷◌, length}
use Rattle.std.proofs.Common.{get_or, subst, sym, ⊎_elim, arith}
use Rattle.std.specs.List.{AllByRecursion}
use Rattle.std.proofs.lemmas.Bool.{cases_lt}
use Rattle.std.proofs.ByRecursion.{All-weaker, All-from_get_or}
use Rattle.digits.specs.Bytes.{Digit, Space}
use Rattle.fields.specs.Bytes.{Printable}
use Rattle.fields.specs.Forms.{Labelled, Paired, Timed, labelled, paired, timed}
use Rattle.fields.specs.Tests.{labelled_decides, paired_decides, timed_decides}
use Rattle.fields.specs.Texts.{TextLaws}

-- bytes that are all spaces begin with one
first_space : (bs : List ℕ) → AllByRecursion Space bs → 0 < length bs → get_or bs 0 0 ≡ 32
first_space [] s l = absurd (omega arith)
first_space (c ∷ cs) s l = s.0

pub label_laws : (n : ℕ) → TextLaws n (Labelled n) (labelled n)
label_laws n = record {
  decides = labelled_decides n;
  long = λ bs f. f.0;
  printable = λ bs f. All-from_get_or Printable bs 0 f.3;
  filled = λ bs f s. f.2 (first_space bs s (omega (arith, f.0, f.1)));
}

-- each of the seven bytes is a letter or the slash
printable_pair : (bs : List ℕ) → Paired bs → AllByRecursion Printable bs
printable_pair bs p =
    All-from_get_or Printable bs 0
    (λ i l.
    ⊎_elim (λ a. let k = p.1 i a in (omega arith, omega arith))
    (λ a. ⊎_elim
    (λ b. let e : i ≡ 3 = omega arith in let s = p.2 in subst (λ j. Printable (get_or bs j 0)) (sym e) (omega arith, omega arith))
    (λ b. let e : 4 + (i - 4) ≡ i = omega arith in let k = p.3 (i - 4) (omega arith) in subst (λ j. Printable (get_or bs j 0)) e (omega arith, omega arith))
    (cases_lt i 4))
    (cases_lt i 3))

pub pair_laws : TextLaws 7 Paired paired
pair_laws = record {
  decides = paired_decides;
  long = λ bs f. f.0;
  printable = printable_pair;
  filled = λ bs f s. let e = first_space bs s (omega (arith, f.0)) in let k = f.1 0 (omega arith) in omega arith;
}

pub time_laws : TextLaws 9 Timed timed
time_laws = record {
  decides = timed_decides;
  long = λ bs f. f.0;
  printable = λ bs f. All-weaker Digit Printable (λ x d. (omega arith, omega arith)) bs (All-from_get_or Digit bs 0 f.1);
  filled = λ bs f s. let e = first_space bs s (omega (arith, f.0)) in let k = f.1 0 (omega (arith, f.0)) in omega arith;
}
