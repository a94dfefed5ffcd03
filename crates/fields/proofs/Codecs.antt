-- The laws of the fields.
use Rattle.std.proofs.Common.{◌≡◌, ℕ, ◌-◌, ◌^◌, ◌<◌, ◌≤◌, eqb, List, [], ◌∷◌, ◌++◌, length, replicate, Ok, Err, decimal, Result, sym, refl, ap, ◌∙◌, subst, inl, inr, ⊎_elim, arith}
use Rattle.std.specs.List.{AllByRecursion}
use Rattle.std.proofs.lemmas.Bool.{cond_both, eqb-true}
use Rattle.std.proofs.ByRecursion.{All-append, All-weaker}
use Rattle.std.proofs.lemmas.Fmt.{digits_decimal, digits_value-decimal, length-decimal-le, decimal_nonempty}
use Rattle.fields.specs.declared.fault.Fault.{Fault}
use Rattle.fields.specs.declared.integers.Integer.{Integer}
use Rattle.fields.specs.declared.decimals.Decimal.{Decimal as Decimals}
use Rattle.fields.specs.declared.decimals.DecimalKind as decimal_kind
use Rattle.fields.specs.declared.texts.Text.{Text}
use Rattle.fields.specs.declared.texts.TextKind as text_kind
use Rattle.fields.specs.Values.{Price, Amount, Quantity, Label, Pair, TimeOfDay}
use Rattle.fields.specs.Decimals.{CountText, count_text}
use Rattle.fields.specs.Texts.{Kept, TextLaws}
use Rattle.fields.specs.Scripts.{label_laws, pair_laws, time_laws}
use Rattle.fields.proofs.Counting.{one_text}
use Rattle.digits.specs.Bytes.{Digit, Space}
use Rattle.fields.specs.Bytes.{Printable}
use Rattle.digits.specs.Numerals.{Decimal, Whole, pointed}
use Rattle.fields.specs.Fields.{PriceField, AmountField, QuantityField, IntegerField, LabelField, PairField, TimeField, price_text, amount_text, quantity_text, integer_text}
use Rattle.digits.specs.Written.{written, padded, justified}
use Rattle.fields.specs.Calls.{Reads}
use Rattle.fields.specs.Laws.{Codec, FieldLaws}
use Rattle.digits.proofs.Counts.{own, written_reads}
use Rattle.digits.proofs.Fronts.{pow10_le, spaces_replicate}
use Rattle.digits.proofs.Wholes.{one_whole}
use Rattle.digits.proofs.Puts.{length-padded, length-justified}
use Rattle.fields.specs.Bounds.{between_bounds}
use Rattle.fields.proofs.Sames.{decimal_same, integer_same, text_same}

-- written bytes read back, where bytes are one x's field at most and values of one x are the same
back_reads : {V X : Type 0} (Field : List ℕ → X → Type 0) (value : V → X) (text : V → List ℕ)
    → ((bs : List ℕ) (x y : X) → Field bs x → Field bs y → x ≡ y) → ((v w : V) → value v ≡ value w → v ≡ w) → ((v : V) → Field (text v) (value v))
    → (v : V) (r : Result V Fault) → Reads Field value (text v) r → r ≡ Ok v
back_reads Field value text one same back v (Ok w) h = ap Ok (same w v (one (text v) (value w) (value v) h (back v)))
back_reads Field value text one same back v (Err e) h = absurd (h.1 (value v) (back v))

-- digits, points and spaces are printable
printable_digits : (ds : List ℕ) → AllByRecursion Digit ds → AllByRecursion Printable ds
printable_digits ds = All-weaker Digit Printable (λ x d. (omega arith, omega arith)) ds

printable_spaces : (bs : List ℕ) → AllByRecursion Space bs → AllByRecursion Printable bs
printable_spaces bs = All-weaker Space Printable (λ x s. (omega arith, omega arith)) bs

printable_pointed : (ds : List ℕ) → AllByRecursion Digit ds → AllByRecursion Printable (pointed ds)
printable_pointed [] d = tt
printable_pointed (c ∷ cs) d = ((omega arith, omega arith), printable_digits (c ∷ cs) d)

printable_decimal : (k : ℕ) (bs : List ℕ) (n : ℕ) → Decimal k bs n → AllByRecursion Printable bs
printable_decimal k bs n d =
    subst (AllByRecursion Printable) (sym d.form)
    (All-append Printable d.whole (pointed d.part ++ d.pad) (printable_digits _ d.whole_digits)
    (All-append Printable (pointed d.part) d.pad (printable_pointed d.part d.part_digits) (printable_spaces _ d.pad_spaces)))

printable_whole : (bs : List ℕ) (n : ℕ) → Whole bs n → AllByRecursion Printable bs
printable_whole bs n w =
    subst (AllByRecursion Printable) (sym w.form) (All-append Printable w.gap w.figures (printable_spaces _ w.gap_spaces) (printable_digits _ w.figures_digits))

module _ {K : Type 0} (k : decimal_kind.Ghosts K) where
  decimal_one : (bs : List ℕ) (m n : ℕ) → k.field bs m → k.field bs n → m ≡ n
  decimal_one bs m n a b = one_text k.WIDTH k.PLACES bs m n (k.laws.is_text bs m a).0 (k.laws.is_text bs n b).0

  decimal_long : (bs : List ℕ) (n : ℕ) → CountText k.WIDTH k.PLACES bs n → length bs ≡ k.WIDTH
  decimal_long bs n t = ⊎_elim (λ d. d.long) (λ b. b.0.0) t

  printable_text : (bs : List ℕ) (n : ℕ) → CountText k.WIDTH k.PLACES bs n → AllByRecursion Printable bs
  printable_text bs n t = ⊎_elim (λ d. printable_decimal k.PLACES bs n d.decimal) (λ b. printable_spaces bs b.0.1) t

  count_small : (v : Decimals K k) → v.count < 2 ^ 64
  count_small v = let b = between_bounds k.LEAST k.MOST v.count (sym (k.laws.range v.count) ∙ v.ok) in omega (arith, b.1, k.laws.small)

  -- what is written is a decimal, or spaces for 0
  text_count : (v : Decimals K k) → CountText k.WIDTH k.PLACES (count_text k.WIDTH k.PLACES v.count) v.count
  text_count v =
      cond_both (eqb v.count 0) [] (written k.PLACES v.count) (λ t. CountText k.WIDTH k.PLACES (padded k.WIDTH t) v.count)
      (λ e. inr ((length-padded k.WIDTH [] (omega arith), spaces_replicate (k.WIDTH - 0)), eqb-true _ 0 e))
      (λ e. inl (record { long = length-padded k.WIDTH _ (k.laws.fits _ v.ok); decimal = written_reads k.PLACES v.count k.WIDTH (count_small v) }))

  decimal_back : (v : Decimals K k) → k.field (k.text v.count) v.count
  decimal_back v =
      subst (λ t. k.field t v.count) (sym (k.laws.written_text v.count v.ok)) (k.laws.is_field _ v.count (text_count v) v.ok)

  pub decimal_codec : Codec {V = Decimals K k} k.WIDTH k.field (λ v. v.count) (λ v. k.text v.count)
  decimal_codec = record {
    one = decimal_one;
    long = λ bs x f. decimal_long bs x (k.laws.is_text bs x f).0;
    printable = λ bs x f. printable_text bs x (k.laws.is_text bs x f).0;
    made = λ bs x f. (record { count = x; kind = record {}; ok = (k.laws.is_text bs x f).1 }, refl);
    same = decimal_same k;
    back = decimal_back;
    reads_back = back_reads k.field (λ v. v.count) (λ v. k.text v.count) decimal_one (decimal_same k) decimal_back;
  }

pub price_codec : Codec {V = Price} 10 PriceField (λ v. v.count) (λ v. price_text v.count)
price_codec = decimal_codec _

pub amount_codec : Codec {V = Amount} 16 AmountField (λ v. v.count) (λ v. amount_text v.count)
amount_codec = decimal_codec _

pub quantity_codec : Codec {V = Quantity} 16 QuantityField (λ v. v.count) (λ v. quantity_text v.count)
quantity_codec = decimal_codec _

-- n has few digits, so it is small
integer_small : (w n : ℕ) → w ≤ 18 → n < 10 ^ w → n < 2 ^ 64
integer_small w n l h = omega (arith, pow10_le w 18 l)

justified_whole : (w n : ℕ) → n < 2 ^ 64 → Whole (justified w (decimal n)) n
justified_whole w n f = record {
  gap = replicate (w - length (decimal n)) 32;
  figures = decimal n;
  form = refl;
  gap_spaces = spaces_replicate (w - length (decimal n));
  figures_digits = digits_decimal own n f;
  figures_some = decimal_nonempty n f;
  count = sym (digits_value-decimal own n f);
}

module _ (w : ℕ) where
  integer_one : (bs : List ℕ) (m n : ℕ) → IntegerField w bs m → IntegerField w bs n → m ≡ n
  integer_one bs m n a b = one_whole bs m n a.1 b.1

  integer_back : (v : Integer w) → IntegerField w (integer_text w v.value) v.value
  integer_back v =
      let s = integer_small w v.value v.ok.1 v.ok.2 in
      (length-justified w _ (length-decimal-le w v.value v.ok.0 v.ok.2 s), justified_whole w v.value s, v.ok)

  pub integer_codec : Codec {V = Integer w} w (IntegerField w) (λ v. v.value) (λ v. integer_text w v.value)
  integer_codec = record {
    one = integer_one;
    long = λ bs x f. f.0;
    printable = λ bs x f. printable_whole bs x f.1;
    made = λ bs x f. (record { value = x; ok = f.2 }, refl);
    same = integer_same w;
    back = integer_back;
    reads_back = back_reads (IntegerField w) (λ v. v.value) (λ v. integer_text w v.value) integer_one (integer_same w) integer_back;
  }

-- fields that are kept as their bytes
kept_one : (Form : List ℕ → Type 0) (bs x y : List ℕ) → Kept Form bs x → Kept Form bs y → x ≡ y
kept_one Form bs x y a b = a.1 ∙ sym b.1

module _ {K : Type 0} (n : ℕ) (k : text_kind.Ghosts K n) (laws : TextLaws n k.form k.test) where
  text_back : (v : Text K n k) → Kept k.form v.bytes v.bytes
  text_back v = ((laws.decides v.bytes).0 v.ok, refl)

  pub text_codec : Codec {V = Text K n k} n (Kept k.form) (λ v. v.bytes) (λ v. v.bytes)
  text_codec = record {
    one = kept_one k.form;
    long = λ bs x f. laws.long bs f.0;
    printable = λ bs x f. laws.printable bs f.0;
    made = λ bs x f. (record { bytes = x; kind = record {}; ok = (laws.decides x).1 (subst k.form (sym f.1) f.0) }, refl);
    same = text_same n k;
    back = text_back;
    reads_back = back_reads (Kept k.form) (λ v. v.bytes) (λ v. v.bytes) (kept_one k.form) (text_same n k) text_back;
  }

pub label_codec : (n : ℕ) → Codec {V = Label n} n (LabelField n) (λ v. v.bytes) (λ v. v.bytes)
label_codec n = text_codec n _ (label_laws n)

pub pair_codec : Codec {V = Pair} 7 PairField (λ v. v.bytes) (λ v. v.bytes)
pair_codec = text_codec 7 _ pair_laws

pub time_codec : Codec {V = TimeOfDay} 9 TimeField (λ v. v.bytes) (λ v. v.bytes)
time_codec = text_codec 9 _ time_laws

pub field_laws : FieldLaws
field_laws = record {
  integer = integer_codec;
  time = time_codec;
  pair = pair_codec;
  label = label_codec;
  price = price_codec;
  amount = amount_codec;
  quantity = quantity_codec;
}
