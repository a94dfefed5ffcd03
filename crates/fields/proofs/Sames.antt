-- Values of the same count or the same bytes are the same.
use Rattle.std.proofs.Common.{◌≡◌, ℕ, true}
use mathlib.Core.HLevel.{is_prop→PathP}
use denote.Struct.Props.{props}
use Rattle.fields.specs.Ranges.{IntegerValue}
use Rattle.fields.specs.declared.decimals.Decimal.{Decimal}
use Rattle.fields.specs.declared.decimals.DecimalKind as decimal_kind
use Rattle.fields.specs.declared.texts.Text.{Text}
use Rattle.fields.specs.declared.texts.TextKind as text_kind
use Rattle.fields.specs.declared.integers.Integer.{Integer}
use Rattle.fields.specs.Values.{Price, Amount, Quantity, Label, Pair, TimeOfDay}

pub decimal_same : {K : Type 0} (k : decimal_kind.Ghosts K) (a b : Decimal K k) → a.count ≡ b.count → a ≡ b
decimal_same k a b e = λ i. record { count = e i; kind = a.kind; ok = is_prop→PathP (λ j. k.may (e j) ≡ true) (λ j. hlevel props) a.ok b.ok i }

pub text_same : {K : Type 0} (n : ℕ) (k : text_kind.Ghosts K n) (a b : Text K n k) → a.bytes ≡ b.bytes → a ≡ b
text_same n k a b e = λ i. record { bytes = e i; kind = a.kind; ok = is_prop→PathP (λ j. k.test (e j) ≡ true) (λ j. hlevel props) a.ok b.ok i }

pub integer_same : (w : ℕ) (a b : Integer w) → a.value ≡ b.value → a ≡ b
integer_same w a b e = λ i. record { value = e i; ok = is_prop→PathP (λ j. IntegerValue w (e j)) (λ j. hlevel props) a.ok b.ok i }

-- by the names of the values
pub price_same : (a b : Price) → a.count ≡ b.count → a ≡ b
price_same = decimal_same _

pub amount_same : (a b : Amount) → a.count ≡ b.count → a ≡ b
amount_same = decimal_same _

pub quantity_same : (a b : Quantity) → a.count ≡ b.count → a ≡ b
quantity_same = decimal_same _

pub label_same : (n : ℕ) (a b : Label n) → a.bytes ≡ b.bytes → a ≡ b
label_same n = text_same n _

pub pair_same : (a b : Pair) → a.bytes ≡ b.bytes → a ≡ b
pair_same = text_same 7 _

pub time_same : (a b : TimeOfDay) → a.bytes ≡ b.bytes → a ≡ b
time_same = text_same 9 _
