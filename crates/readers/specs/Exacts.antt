-- The numbers that are worked out from bytes are those of the grammar.
use Rattle.std.specs.Prelude.{◌≡◌, ℕ, ◌+◌, ◌-◌, ◌*◌, ◌^◌, ◌<◌, ◌≤◌, Bool, true, false, ◌&&◌, ◌⊎◌, List, [], ◌∷◌, ◌++◌, length, drop, Some, Decides, Option, ◌==◌, nat_eq, nat_lt, slice_index, refl}
use Rattle.std.proofs.Math.Path.{sym, ap}
use Rattle.std.proofs.Common.{subst, ◌∙◌, inl, inr, ⊎_elim, arith}
use Rattle.std.specs.Option.{option_or}
use Rattle.std.specs.Bool.{then_some}
use Rattle.std.specs.Char.{is_ascii_digit}
use Rattle.std.specs.List.{AllByRecursion}
use Rattle.std.proofs.lemmas.Bool.{cond-true, cond-false, cond_both, cases_Bool, cases_lt, eqb-true, eq-eqb, ne_eqb}
use Rattle.std.proofs.lemmas.List.{get_or_past, append-nil}
use Rattle.std.proofs.lemmas.Bool.Decides.{Decides-eqb, Decides-ltb, Decides-and}
use Rattle.std.proofs.ByRecursion.{Decides-by_and}
use Rattle.digits.specs.Bytes.{Digit, Space}
use Rattle.digits.specs.Numerals.{front, numeral, Whole, Decimal}
use Rattle.digits.proofs.Fronts.{digit_test, digit_from_test, spaces_rest}
use Rattle.digits.proofs.Shapes.{Plain, Parted, read_on-append, plain_decimal, parted_decimal, decimal_some, decimal_shape}
use Rattle.fields.specs.Tests.{decides_leb}
use Rattle.readers.specs.Numbers.{spaced, figured, unspaced, behind, plain, parted, whole_of, decimal_of}

-- what g works out is what is so, and nothing else
pub record Exact {X : Type 0} (Is : List ℕ → X → Type 0) (g : List ℕ → Option X) : Type 0 where
  pub sound : (bs : List ℕ) (x : X) → g bs ≡ Some x → Is bs x
  pub complete : (bs : List ℕ) (x : X) → Is bs x → g bs ≡ Some x

pub when_some : {X : Type 0} (b : Bool) (x y : X) → then_some b x ≡ Some y → (b ≡ true) × (x ≡ y)
when_some true x y e = (refl, cc)
when_some false x y e = let z : ◌≡◌ {A = ℕ} 0 1 = cc in absurd (omega arith)

first_some : {X : Type 0} (a b : Bool) (x y z : X) → option_or (then_some a x) (then_some b y) ≡ Some z → ((a ≡ true) × (x ≡ z)) ⊎ ((b ≡ true) × (y ≡ z))
first_some true b x y z e = inl (refl, cc)
first_some false b x y z e = inr (when_some b y z e)

pub spaced_decides : (bs : List ℕ) → Decides (spaced bs) (AllByRecursion Space bs)
spaced_decides = Decides-by_and (λ c. nat_eq c 32) Space spaced (λ c. Decides-eqb c 32) refl (λ _ _. refl)

figured_decides : (bs : List ℕ) → Decides (figured bs) (AllByRecursion Digit bs)
figured_decides = Decides-by_and is_ascii_digit Digit figured (λ c. (digit_from_test c, digit_test c)) refl (λ _ _. refl)

-- Integers.
split_spaces : (bs : List ℕ) → (gap : List ℕ) × (bs ≡ gap ++ unspaced bs) × AllByRecursion Space gap
split_spaces [] = ([], refl, tt)
split_spaces (c ∷ cs) =
    cond_both (c == 32) (unspaced cs) (c ∷ cs) (λ u. (gap : List ℕ) × ((c ∷ cs) ≡ gap ++ u) × AllByRecursion Space gap)
    (λ e. let more = split_spaces cs in (c ∷ more.0, ap (λ l. c ∷ l) more.1, (eqb-true c 32 e, more.2)))
    (λ e. ([], refl, tt))

unspaced_figures : (gap figures : List ℕ) → AllByRecursion Space gap → AllByRecursion Digit figures → unspaced (gap ++ figures) ≡ figures
unspaced_figures [] [] s d = refl
unspaced_figures [] (f ∷ fs) s d = let k = d.0 in cond-false _ _ _ (ne_eqb f 32 (λ e. omega arith))
unspaced_figures (c ∷ cs) figures s d = cond-true _ _ _ (eq-eqb c 32 s.0) ∙ unspaced_figures cs figures s.1 d

whole_figures : (bs : List ℕ) (n : ℕ) (w : Whole bs n) → unspaced bs ≡ w.figures
whole_figures bs n w = ap unspaced w.form ∙ unspaced_figures w.gap w.figures w.gap_spaces w.figures_digits

whole_decides : (bs : List ℕ) → Decides (nat_lt 0 (length (unspaced bs)) && figured (unspaced bs)) ((0 < length (unspaced bs)) × AllByRecursion Digit (unspaced bs))
whole_decides bs = Decides-and _ _ (Decides-ltb 0 (length (unspaced bs))) (figured_decides (unspaced bs))

pub whole_exact : Exact Whole whole_of
unfolding whole_of
whole_exact = record {
  sound = λ bs n e.
      let h = when_some _ _ _ e in
      let p = split_spaces bs in
      let d = (whole_decides bs).0 h.0 in
      record { gap = p.0; figures = unspaced bs; form = p.1; gap_spaces = p.2; figures_digits = d.1; figures_some = d.0; count = sym h.1 };
  complete = λ bs n w.
      let u = whole_figures bs n w in
      let t = (whole_decides bs).1 (omega (arith, ap length u, w.figures_some), subst (AllByRecursion Digit) (sym u) w.figures_digits) in
      ap (λ b. then_some b (numeral (unspaced bs))) t ∙ ap Some (ap numeral u ∙ sym w.count);
}

-- spaces alone are no integer
pub blank_whole : (bs : List ℕ) (n : ℕ) → Whole bs n → AllByRecursion Space bs → ⊥
blank_whole bs n w s =
    let none : unspaced bs ≡ [] = ap unspaced (sym (append-nil bs)) ∙ unspaced_figures bs [] s tt in
    omega (arith, w.figures_some, ap length (sym (whole_figures bs n w) ∙ none))

-- Decimals.
plain_decides : (bs : List ℕ) → Decides (plain bs) ((0 < length (front bs)) × AllByRecursion Space (drop (length (front bs)) bs))
plain_decides bs = Decides-and _ _ (Decides-ltb 0 (length (front bs))) (spaced_decides (drop (length (front bs)) bs))

parted_decides : (p : ℕ) (bs : List ℕ) → Decides (parted p bs) ((0 < length (front bs)) × ((slice_index bs (length (front bs)) ≡ 46) × ((0 < length (behind bs)) × ((length (behind bs) ≤ p) × AllByRecursion Space (drop (length (front bs) + 1 + length (behind bs)) bs)))))
parted_decides p bs =
    Decides-and _ _ (Decides-ltb 0 (length (front bs)))
    (Decides-and _ _ (Decides-eqb (slice_index bs (length (front bs))) 46)
    (Decides-and _ _ (Decides-ltb 0 (length (behind bs)))
    (Decides-and _ _ (decides_leb (length (behind bs)) p) (spaced_decides (drop (length (front bs) + 1 + length (behind bs)) bs)))))

inside : (bs : List ℕ) (i : ℕ) → slice_index bs i ≡ 46 → i < length bs
inside bs i e = ⊎_elim (λ l. l) (λ l. let z = get_or_past bs i 0 l in absurd (omega arith)) (cases_lt i (length bs))

module _ (p : ℕ) (bs : List ℕ) (n : ℕ) where
  parted_is : parted p bs ≡ true → numeral (front bs ++ behind bs) * 10 ^ (p - length (behind bs)) ≡ n → Decimal p bs n
  parted_is t e =
      let d = (parted_decides p bs).0 t in
      parted_decimal p bs n d.0
      (record {
        inside = inside bs (length (front bs)) d.1.0;
        point = d.1.0;
        some = d.1.1.0;
        few = d.1.1.1.0;
        spaces = d.1.1.1.1;
        count = sym e ∙ ap (λ m. m * 10 ^ (p - length (behind bs))) (read_on-append 0 (front bs) (behind bs));
      })

  plain_is : plain bs ≡ true → numeral (front bs) * 10 ^ p ≡ n → Decimal p bs n
  plain_is t e = let d = (plain_decides bs).0 t in plain_decimal p bs n d.0 (record { spaces = d.1; count = sym e })

  -- bytes with a point there are not plain
  not_plain : Parted p bs n → plain bs ≡ false
  not_plain h =
      ⊎_elim
      (λ t. let s = (spaces_rest bs (length (front bs)) h.inside ((plain_decides bs).0 t).1).0 in let e = h.point in absurd (omega arith))
      (λ f. f) (cases_Bool (plain bs))

  from_plain : 0 < length (front bs) → Plain p bs n → decimal_of p bs ≡ Some n
  unfolding decimal_of
  from_plain some h =
      ap (λ b. option_or (then_some b (numeral (front bs) * 10 ^ p)) (then_some (parted p bs) (numeral (front bs ++ behind bs) * 10 ^ (p - length (behind bs))))) ((plain_decides bs).1 (some, h.spaces)) ∙ ap Some (sym h.count)

  from_parted : 0 < length (front bs) → Parted p bs n → decimal_of p bs ≡ Some n
  unfolding decimal_of
  from_parted some h =
      ap (λ b. option_or (then_some b (numeral (front bs) * 10 ^ p)) (then_some (parted p bs) (numeral (front bs ++ behind bs) * 10 ^ (p - length (behind bs))))) (not_plain h)
      ∙ ap (λ b. then_some b (numeral (front bs ++ behind bs) * 10 ^ (p - length (behind bs)))) ((parted_decides p bs).1 (some, (h.point, (h.some, (h.few, h.spaces)))))
      ∙ ap Some (ap (λ m. m * 10 ^ (p - length (behind bs))) (read_on-append 0 (front bs) (behind bs)) ∙ sym h.count)

pub decimal_exact : (p : ℕ) → Exact (Decimal p) (decimal_of p)
unfolding decimal_of
decimal_exact p = record {
  sound = λ bs n e. ⊎_elim (λ h. plain_is p bs n h.0 h.1) (λ h. parted_is p bs n h.0 h.1) (first_some _ _ _ _ _ e);
  complete = λ bs n d. let some = decimal_some p bs n d in ⊎_elim (from_plain p bs n some) (from_parted p bs n some) (decimal_shape p bs n d);
}
