-- The kinds of decimals on the line keep the laws of a kind.
use Rattle.std.specs.Prelude.{◌≡◌, ℕ, ◌≤◌, List, length, ◌==◌, refl}
use Rattle.std.proofs.Common.{sym, ap, ◌∙◌, subst, inl, ⊎_elim, arith, lit≤}
use Rattle.std.specs.Fmt.{digits}
use Rattle.std.proofs.lemmas.Bool.{cond-false, cases_Bool, eqb-true, eqb-false, ne_eqb}
use Rattle.digits.specs.Numerals.{DecimalField}
use Rattle.digits.specs.Written.{written, padded}
use Rattle.fields.specs.Ranges.{priced, amounted, quantified, PriceCount, AmountCount, QuantityCount}
use Rattle.fields.specs.Bounds.{between_bounds, priced_is, price_fits, amount_fits, quantity_amount}
use Rattle.fields.specs.Decimals.{CountText, count_text, KindLaws}
use Rattle.fields.specs.Fields.{PriceField, AmountField, QuantityField, price_text, amount_text, quantity_text}

-- a count that is not 0 stands as a decimal alone, and is written as one
decimal_only : (width places n : ℕ) (bs : List ℕ) → (n ≡ 0 → ⊥) → CountText width places bs n → DecimalField width places bs n
decimal_only width places n bs some f = ⊎_elim (λ d. d) (λ b. absurd (some b.1)) f

decimal_text : (width places n : ℕ) → (n ≡ 0 → ⊥) → padded width (written places n) ≡ count_text width places n
decimal_text width places n some = ap (padded width) (sym (cond-false _ _ _ (ne_eqb n 0 some)))

price_some : (n : ℕ) → PriceCount n → n ≡ 0 → ⊥
price_some n h e = let b = between_bounds 1 999999999 n (sym (priced_is n) ∙ h) in omega arith

pub price_laws : KindLaws 10 5 1 999999999 priced PriceField price_text
price_laws = record {
  narrow = lit≤ tt;
  small = lit≤ tt;
  range = priced_is;
  fits = price_fits;
  is_text = λ bs n f. (inl f.0, f.1);
  is_field = λ bs n f h. (decimal_only 10 5 n bs (price_some n h) f, h);
  written_text = λ n h. decimal_text 10 5 n (price_some n h);
}

amount_some : (n : ℕ) → AmountCount n → n ≡ 0 → ⊥
amount_some n h e = let b = between_bounds 1 1000000000000000 n h in omega arith

pub amount_laws : KindLaws 16 2 1 1000000000000000 amounted AmountField amount_text
amount_laws = record {
  narrow = lit≤ tt;
  small = lit≤ tt;
  range = λ n. refl;
  fits = amount_fits;
  is_text = λ bs n f. (inl f.0, f.1);
  is_field = λ bs n f h. (decimal_only 16 2 n bs (amount_some n h) f, h);
  written_text = λ n h. decimal_text 16 2 n (amount_some n h);
}

-- every quantity fits: 0 in one byte, the others as amounts
quantity_fits : (n : ℕ) → QuantityCount n → length (written 2 n) ≤ 16
unfolding digits
quantity_fits n h =
    ⊎_elim
    (λ t. subst (λ k. length (written 2 k) ≤ 16) (sym (eqb-true n 0 t)) (lit≤ tt))
    (λ f. amount_fits n (quantity_amount n h (eqb-false n 0 f)))
    (cases_Bool (n == 0))

pub quantity_laws : KindLaws 16 2 0 1000000000000000 quantified QuantityField quantity_text
quantity_laws = record {
  narrow = lit≤ tt;
  small = lit≤ tt;
  range = λ n. refl;
  fits = quantity_fits;
  is_text = λ bs n f. f;
  is_field = λ bs n f h. (f, h);
  written_text = λ n h. refl;
}
