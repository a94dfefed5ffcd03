-- The laws of the fields.
use Rattle.std.specs.Prelude.{◌≡◌, ℕ, List, length, Ok, Result}
use Rattle.std.specs.List.{AllByRecursion}
use Rattle.fields.specs.declared.fault.Fault.{Fault}
use Rattle.fields.specs.declared.integers.Integer.{Integer}
use Rattle.fields.specs.declared.decimals.Decimal.{Decimal}
use Rattle.fields.specs.declared.decimals.DecimalKind as decimal_kind
use Rattle.fields.specs.declared.texts.Text.{Text}
use Rattle.fields.specs.declared.texts.TextKind as text_kind
use Rattle.fields.specs.Values.{Price, Amount, Quantity, Label, Pair, TimeOfDay}
use Rattle.fields.specs.Bytes.{Printable}
use Rattle.fields.specs.Fields.{PriceField, AmountField, QuantityField, IntegerField, LabelField, PairField, TimeField, price_text, amount_text, quantity_text, integer_text}
use Rattle.fields.specs.Calls.{Reads}
use Rattle.fields.specs.Texts.{Kept}

-- Field bs x: bs is the field of x; each v of V is one x, value v, and is written as text v
pub record Codec {V X : Type 0} (width : ℕ) (Field : List ℕ → X → Type 0) (value : V → X) (text : V → List ℕ) : Type 0 where
  -- bytes are the field of one x at most
  pub one : (bs : List ℕ) (x y : X) → Field bs x → Field bs y → x ≡ y
  -- they are as many as the field is wide, and printable
  pub long : (bs : List ℕ) (x : X) → Field bs x → length bs ≡ width
  pub printable : (bs : List ℕ) (x : X) → Field bs x → AllByRecursion Printable bs
  -- whatever stands in a field is the one value's
  pub made : (bs : List ℕ) (x : X) → Field bs x → (v : V) × (value v ≡ x)
  pub same : (v w : V) → value v ≡ value w → v ≡ w
  -- what is written is a field in form, and is read back as the value
  pub back : (v : V) → Field (text v) (value v)
  pub reads_back : (v : V) (r : Result V Fault) → Reads Field value (text v) r → r ≡ Ok v

-- of any kind of decimals, and of any kind of texts
abbrev pub DecimalCodec : {K : Type 0} → decimal_kind.Ghosts K → Type 0
DecimalCodec {K} k = Codec {V = Decimal K k} k.WIDTH k.field (λ v. v.count) (λ v. k.text v.count)

abbrev pub TextCodec : {K : Type 0} → (n : ℕ) → text_kind.Ghosts K n → Type 0
TextCodec {K} n k = Codec {V = Text K n k} n (Kept k.form) (λ v. v.bytes) (λ v. v.bytes)

pub record FieldLaws : Type 0 where
  pub integer : (width : ℕ) → Codec {V = Integer width} width (IntegerField width) (λ v. v.value) (λ v. integer_text width v.value)
  pub time : Codec {V = TimeOfDay} 9 TimeField (λ v. v.bytes) (λ v. v.bytes)
  pub pair : Codec {V = Pair} 7 PairField (λ v. v.bytes) (λ v. v.bytes)
  pub label : (width : ℕ) → Codec {V = Label width} width (LabelField width) (λ v. v.bytes) (λ v. v.bytes)
  pub price : Codec {V = Price} 10 PriceField (λ v. v.count) (λ v. price_text v.count)
  pub amount : Codec {V = Amount} 16 AmountField (λ v. v.count) (λ v. amount_text v.count)
  pub quantity : Codec {V = Quantity} 16 QuantityField (λ v. v.count) (λ v. quantity_text v.count)
