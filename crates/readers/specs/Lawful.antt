-- The laws of the readings.
use Rattle.std.specs.Prelude.{◌≡◌, ℕ, ◌^◌, Bool, true, false, cond, ◌⊎◌, List, [], ◌∷◌, length, Some, None, Decides, Option, ◌==◌, refl}
use Rattle.std.proofs.Common.{sym, ap, subst, ◌∙◌, inl, inr, ⊎_elim, arith}
use Rattle.std.proofs.Math.Bool.{Bool-set}
use Rattle.std.specs.List.{AllByRecursion}
use Rattle.std.proofs.lemmas.Bool.{cond-true, cond-false, cases_Bool, eqb-true, eq-eqb, false≢true}
use Rattle.std.proofs.lemmas.Bool.Decides.{nat_tests, Decides-ltb, Decides-and}
use Rattle.digits.specs.Bytes.{Space}
use Rattle.digits.specs.Numerals.{Whole, Decimal}
use Rattle.digits.proofs.Shapes.{blank_none}
use Rattle.fields.specs.declared.integers.Integer.{Integer}
use Rattle.fields.specs.declared.decimals.Decimal.{Decimal as Decimals}
use Rattle.fields.specs.declared.decimals.DecimalKind as decimal_kind
use Rattle.fields.specs.declared.texts.TextKind as text_kind
use Rattle.fields.specs.Scripts.{label_laws, pair_laws, time_laws}
use Rattle.fields.specs.Texts.{Kept, TextLaws}
use Rattle.fields.specs.Ranges.{IntegerValue}
use Rattle.fields.proofs.Sames.{decimal_same, integer_same, text_same}
use Rattle.fields.specs.Tests.{decides_leb}
use Rattle.book.specs.declared.order.Side.{Side}
use Rattle.book.specs.declared.order.Side.TheVariants.{Bid, Offer}
use Rattle.readers.specs.Numbers.{spaced, whole_of, decimal_of}
use Rattle.readers.specs.Values.{passing, and_then, sized, numbered, numbered_value, decimal_value, text_value, DecimalIs, TextIs, pair_of, label_of, time_of, price_of, amount_of, quantity_of, integer_of, side_of, side_for, letter_of, PairIs, LabelIs, TimeIs, PriceIs, AmountIs, QuantityIs, IntegerIs, SideIs}
use Rattle.readers.specs.Laws.{FieldLaw}
use Rattle.readers.specs.Exacts.{Exact, spaced_decides, whole_exact, decimal_exact}

-- A value that is made where a test is true.
pub passing_true : {A : Type 0} (test : Bool) (make : test ≡ true → A) (h : test ≡ true) → passing test make ≡ Some (make h)
passing_true true make h = ap (λ q. Some (make q)) (Bool-set true true refl h)
passing_true false make h = absurd (false≢true h)

passing_some : {A : Type 0} (test : Bool) (make : test ≡ true → A) (v : A) → passing test make ≡ Some v → (h : test ≡ true) × (make h ≡ v)
passing_some true make v e = (refl, cc)
passing_some false make v e = let z : ◌≡◌ {A = ℕ} 0 1 = cc in absurd (omega arith)

then_some : {A B : Type 0} (o : Option A) (f : A → Option B) (y : B) → and_then o f ≡ Some y → (x : A) × (o ≡ Some x) × (f x ≡ Some y)
then_some None f y e = let z : ◌≡◌ {A = ℕ} 0 1 = cc in absurd (omega arith)
then_some (Some x) f y e = (x, refl, e)

sized_some : {A : Type 0} (w : ℕ) (bs : List ℕ) (o : Option A) (v : A) → sized w bs o ≡ Some v → (length bs ≡ w) × (o ≡ Some v)
sized_some w bs o v e =
    ⊎_elim
    (λ t. (eqb-true (length bs) w t, sym (cond-true _ _ _ t) ∙ e))
    (λ f. let n : None ≡ Some v = sym (cond-false (length bs == w) o None f) ∙ e in let z : ◌≡◌ {A = ℕ} 0 1 = cc in absurd (omega arith))
    (cases_Bool (length bs == w))

-- fields that are kept as their bytes
module _ {V : Type 0} (w : ℕ) (Form : List ℕ → Type 0) (test : List ℕ → Bool) (bytes : V → List ℕ) (make : (bs : List ℕ) → test bs ≡ true → V) where
  kept_law : ((bs : List ℕ) → Decides (test bs) (Form bs)) → ((bs : List ℕ) → Form bs → length bs ≡ w)
      → ((bs : List ℕ) (h : test bs ≡ true) → bytes (make bs h) ≡ bs) → ((u v : V) → bytes u ≡ bytes v → u ≡ v)
      → FieldLaw w (λ bs v. Kept Form bs (bytes v)) (λ bs. passing (test bs) (make bs))
  kept_law decides wide keeps same = record {
    sound = λ bs v e. let p = passing_some (test bs) (make bs) v e in ((decides bs).0 p.0, ap bytes (sym p.1) ∙ keeps bs p.0);
    complete = λ bs v f. let h = (decides bs).1 f.0 in passing_true (test bs) (make bs) h ∙ ap Some (same (make bs h) v (keeps bs h ∙ sym f.1));
    long = λ bs v f. wide bs f.0;
  }

-- fields of a number that may be such
module _ {V : Type 0} (w : ℕ) (Is : List ℕ → ℕ → Type 0) (number : List ℕ → Option ℕ) (May : ℕ → Type 0) (test : ℕ → Bool) (value : V → ℕ) (make : (n : ℕ) → test n ≡ true → V) where
  counted_law : Exact Is number → ((n : ℕ) → Decides (test n) (May n)) → ((n : ℕ) (h : test n ≡ true) → value (make n h) ≡ n) → ((u v : V) → value u ≡ value v → u ≡ v)
      → FieldLaw w (λ bs v. (length bs ≡ w) × Is bs (value v) × May (value v)) (λ bs. sized w bs (and_then (number bs) (λ n. passing (test n) (make n))))
  counted_law exact decides keeps same = record {
    sound = λ bs v e.
        let s = sized_some w bs _ v e in
        let t = then_some (number bs) _ v s.1 in
        let p = passing_some (test t.0) (make t.0) v t.2 in
        let is : t.0 ≡ value v = sym (keeps t.0 p.0) ∙ ap value p.1 in
        (s.0, subst (Is bs) is (exact.sound bs t.0 t.1), subst May is ((decides t.0).0 p.0));
    complete = λ bs v f.
        let h = (decides (value v)).1 f.2 in
        cond-true _ _ _ (eq-eqb (length bs) w f.0) ∙ ap (λ o. and_then o (λ n. passing (test n) (make n))) (exact.complete bs (value v) f.1) ∙ passing_true (test (value v)) (make (value v)) h ∙ ap Some (same (make (value v) h) v (keeps (value v) h));
    long = λ bs v f. f.0;
  }

law_like : {V : Type 0} {w : ℕ} {Is Has : List ℕ → V → Type 0} {reads : List ℕ → Option V} → ((bs : List ℕ) (v : V) → Is bs v → Has bs v) → ((bs : List ℕ) (v : V) → Has bs v → Is bs v) → FieldLaw w Is reads → FieldLaw w Has reads
law_like to from law = record {
  sound = λ bs v e. to bs v (law.sound bs v e);
  complete = λ bs v h. law.complete bs v (from bs v h);
  long = λ bs v h. law.long bs v (from bs v h);
}

module _ {K : Type 0} (n : ℕ) (k : text_kind.Ghosts K n) (laws : TextLaws n k.form k.test) where
  pub text_law : FieldLaw n (TextIs n k) (text_value n k)
  unfolding text_value
  text_law = kept_law n k.form k.test (λ v. v.bytes) (λ bs h. record { bytes = bs; kind = record {}; ok = h }) laws.decides laws.long (λ bs h. refl) (text_same n k)

pub pair_law : FieldLaw 7 PairIs pair_of
pair_law = text_law 7 _ pair_laws

pub label_law : (n : ℕ) → FieldLaw n (LabelIs n) (label_of n)
label_law n = text_law n _ (label_laws n)

pub time_law : FieldLaw 9 TimeIs time_of
time_law = text_law 9 _ time_laws

-- a test decides that it is true
itself : (b : Bool) → Decides b (b ≡ true)
itself b = (λ e. e, λ e. e)

-- a decimal, or spaces, which count 0
abbrev OrBlank : ℕ → List ℕ → ℕ → Type 0
OrBlank p bs n = Decimal p bs n ⊎ (AllByRecursion Space bs × (n ≡ 0))

or_blank_exact : (p : ℕ) → Exact (OrBlank p) (λ bs. cond (spaced bs) (Some 0) (decimal_of p bs))
or_blank_exact p = record {
  sound = λ bs n e.
      ⊎_elim
      (λ t. let z : Some 0 ≡ Some n = sym (cond-true _ _ _ t) ∙ e in inr ((spaced_decides bs).0 t, cc))
      (λ f. inl ((decimal_exact p).sound bs n (sym (cond-false _ _ _ f) ∙ e)))
      (cases_Bool (spaced bs));
  complete = λ bs n h.
      ⊎_elim
      (λ d. ⊎_elim
      (λ t. absurd (blank_none p bs n ((spaced_decides bs).0 t) d))
      (λ f. cond-false _ _ _ f ∙ (decimal_exact p).complete bs n d)
      (cases_Bool (spaced bs)))
      (λ b. cond-true _ _ _ ((spaced_decides bs).1 b.0) ∙ ap Some (sym b.1))
      h;
}

module _ {K : Type 0} (k : decimal_kind.Ghosts K) where
  pub decimal_law : FieldLaw k.WIDTH (DecimalIs k) (decimal_value k)
  unfolding decimal_value
  decimal_law =
      law_like
      (λ bs v f. k.laws.is_field bs v.count (⊎_elim (λ d. inl (record { long = f.0; decimal = d })) (λ b. inr ((f.0, b.0), b.1)) f.1) f.2)
      (λ bs v f.
      let t = k.laws.is_text bs v.count f in
      (⊎_elim (λ d. d.long) (λ b. b.0.0) t.0, ⊎_elim (λ d. inl d.decimal) (λ b. inr (b.0.1, b.1)) t.0, t.1))
      (counted_law k.WIDTH (OrBlank k.PLACES) (λ bs. cond (spaced bs) (Some 0) (decimal_of k.PLACES bs)) (λ n. k.may n ≡ true) k.may (λ (v : Decimals K k). v.count) (λ n h. record { count = n; kind = record {}; ok = h }) (or_blank_exact k.PLACES) (λ n. itself (k.may n)) (λ n h. refl) (decimal_same k))

pub price_law : FieldLaw 10 PriceIs price_of
price_law = decimal_law _

pub amount_law : FieldLaw 16 AmountIs amount_of
amount_law = decimal_law _

pub quantity_law : FieldLaw 16 QuantityIs quantity_of
quantity_law = decimal_law _

numbered_decides : (w n : ℕ) → Decides (numbered w n) (IntegerValue w n)
numbered_decides w n = (numbered_value w n, λ h. (Decides-and _ _ (Decides-ltb 0 w) (Decides-and _ _ (decides_leb w 18) (Decides-ltb n (10 ^ w)))).1 (h.0, (h.1, h.2)))

pub integer_law : (w : ℕ) → FieldLaw w (IntegerIs w) (integer_of w)
unfolding integer_of
integer_law w =
    counted_law w Whole whole_of (IntegerValue w) (numbered w) (λ (v : Integer w). v.value) (λ n h. record { value = n; ok = numbered_value w n h }) whole_exact (numbered_decides w) (λ n h. refl) (integer_same w)

-- the letter of the side that is read
letter_read : (c : ℕ) (v : Side) → side_for c ≡ Some v → c ≡ letter_of v
letter_read c Bid e = grind (arith, nat_tests)
letter_read c Offer e = grind (arith, nat_tests)

side_sound : (bs : List ℕ) (v : Side) → side_of bs ≡ Some v → SideIs bs v
unfolding side_of
side_sound [] v e = let z : ◌≡◌ {A = ℕ} 0 1 = cc in absurd (omega arith)
side_sound (c ∷ []) v e = ap (λ l. l ∷ []) (letter_read c v e)
side_sound (c ∷ (d ∷ ds)) v e = let s = (sized_some 1 (c ∷ (d ∷ ds)) _ v e).0 in absurd (omega arith)

side_complete : (bs : List ℕ) (v : Side) → SideIs bs v → side_of bs ≡ Some v
unfolding side_of
side_complete bs Bid h = ap side_of h
side_complete bs Offer h = ap side_of h

pub side_law : FieldLaw 1 SideIs side_of
side_law = record { sound = side_sound; complete = side_complete; long = λ bs v h. ap length h }
