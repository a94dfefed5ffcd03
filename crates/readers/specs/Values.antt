-- The value that the bytes of a field are, or none, worked out from the bytes.
use Rattle.std.specs.Prelude.{◌≡◌, ℕ, ◌^◌, Bool, true, false, cond, ◌&&◌, List, [], ◌∷◌, length, Some, None, Option, ◌==◌, nat_le, nat_lt, slice_index, refl}
use Rattle.std.specs.Option.{option_map}
use Rattle.std.proofs.lemmas.Bool.{and_parts, ltb-true, leb-true}
use Rattle.fields.specs.Values.{Price, Amount, Quantity, Label, Pair, TimeOfDay}
use Rattle.fields.specs.declared.integers.Integer.{Integer}
use Rattle.fields.specs.declared.decimals.Decimal.{Decimal}
use Rattle.fields.specs.declared.decimals.DecimalKind as decimal_kind
use Rattle.fields.specs.declared.texts.Text.{Text}
use Rattle.fields.specs.declared.texts.TextKind as text_kind
use Rattle.fields.specs.Texts.{Kept}
use Rattle.std.specs.List.{AllByRecursion}
use Rattle.digits.specs.Bytes.{Space}
use Rattle.fields.specs.Fields.{PriceField, AmountField, QuantityField, IntegerField, LabelField, PairField, TimeField}
use Rattle.fields.specs.Ranges.{IntegerValue}
use Rattle.book.specs.declared.order.Side.{Side}
use Rattle.book.specs.declared.order.Side.TheVariants.{Bid, Offer}
use Rattle.readers.specs.Numbers.{spaced, whole_of, decimal_of}

-- the value that is made where a test is true, or none
abbrev pub passing : {A : Type 0} (test : Bool) → (test ≡ true → A) → Option A
passing true make = Some (make refl)
passing false make = None

-- what f gives of the value that there is, or none
abbrev pub and_then : {A B : Type 0} → Option A → (A → Option B) → Option B
and_then None f = None
and_then (Some x) f = f x

-- what a field of w bytes gives, or none where there are not w bytes
abbrev pub sized : {A : Type 0} → ℕ → List ℕ → Option A → Option A
sized w bs given = cond (length bs == w) given None

-- The values of these numbers.
abbrev pub decimal_for : {K : Type 0} (k : decimal_kind.Ghosts K) → ℕ → Option (Decimal K k)
decimal_for k n = passing (k.may n) (λ h. record { count = n; kind = record {}; ok = h })

-- a field of 1 to 18 bytes, and a number that has no more digits
abbrev pub numbered : ℕ → ℕ → Bool
numbered w n = nat_lt 0 w && (nat_le w 18 && nat_lt n (10 ^ w))

pub numbered_value : (w n : ℕ) → numbered w n ≡ true → IntegerValue w n
numbered_value w n h =
    let p = and_parts (nat_lt 0 w) (nat_le w 18 && nat_lt n (10 ^ w)) h in
    let q = and_parts (nat_le w 18) (nat_lt n (10 ^ w)) p.1 in
    (ltb-true 0 w p.0, leb-true w 18 q.0, ltb-true n (10 ^ w) q.1)

abbrev pub integer_for : (w : ℕ) → ℕ → Option (Integer w)
integer_for w n = passing (numbered w n) (λ h. record { value = n; ok = numbered_value w n h })

-- the side of a letter
abbrev pub side_for : ℕ → Option Side
side_for c = cond (c == 66) (Some Bid) (cond (c == 83) (Some Offer) None)

-- The value of these bytes, for every kind. All spaces count 0.
unfoldable pub decimal_value : {K : Type 0} (k : decimal_kind.Ghosts K) → List ℕ → Option (Decimal K k)
decimal_value k bs = sized k.WIDTH bs (and_then (cond (spaced bs) (Some 0) (decimal_of k.PLACES bs)) (decimal_for k))

unfoldable pub text_value : {K : Type 0} (n : ℕ) (k : text_kind.Ghosts K n) → List ℕ → Option (Text K n k)
text_value n k bs = passing (k.test bs) (λ h. record { bytes = bs; kind = record {}; ok = h })

-- The values by their names.
abbrev pub pair_of : List ℕ → Option Pair
pair_of = text_value 7 _

abbrev pub label_of : (n : ℕ) → List ℕ → Option (Label n)
label_of n = text_value n _

abbrev pub time_of : List ℕ → Option TimeOfDay
time_of = text_value 9 _

abbrev pub price_of : List ℕ → Option Price
price_of = decimal_value _

abbrev pub amount_of : List ℕ → Option Amount
amount_of = decimal_value _

abbrev pub quantity_of : List ℕ → Option Quantity
quantity_of = decimal_value _

unfoldable pub integer_of : (w : ℕ) → List ℕ → Option (Integer w)
integer_of w bs = sized w bs (and_then (whole_of bs) (integer_for w))

-- one byte: B or S
unfoldable pub side_of : List ℕ → Option Side
side_of bs = sized 1 bs (side_for (slice_index bs 0))

-- w spaces
abbrev pub blank : ℕ → List ℕ → Bool
blank w bs = length bs == w && spaced bs

-- a field of w bytes that may be blank, and that f reads where it is not
unfoldable pub optional_of : {A : Type 0} → ℕ → (List ℕ → Option A) → List ℕ → Option (Option A)
optional_of w f bs = cond (blank w bs) (Some None) (option_map Some (f bs))

-- The same as relations: bs is the field of v.
abbrev pub DecimalIs : {K : Type 0} (k : decimal_kind.Ghosts K) → List ℕ → Decimal K k → Type 0
DecimalIs k bs v = k.field bs v.count

abbrev pub TextIs : {K : Type 0} (n : ℕ) (k : text_kind.Ghosts K n) → List ℕ → Text K n k → Type 0
TextIs n k bs v = Kept k.form bs v.bytes

abbrev pub PairIs : List ℕ → Pair → Type 0
PairIs bs v = PairField bs v.bytes

abbrev pub LabelIs : (n : ℕ) → List ℕ → Label n → Type 0
LabelIs n bs v = LabelField n bs v.bytes

abbrev pub TimeIs : List ℕ → TimeOfDay → Type 0
TimeIs bs v = TimeField bs v.bytes

abbrev pub PriceIs : List ℕ → Price → Type 0
PriceIs bs v = PriceField bs v.count

abbrev pub AmountIs : List ℕ → Amount → Type 0
AmountIs bs v = AmountField bs v.count

abbrev pub QuantityIs : List ℕ → Quantity → Type 0
QuantityIs bs v = QuantityField bs v.count

abbrev pub IntegerIs : (w : ℕ) → List ℕ → Integer w → Type 0
IntegerIs w bs v = IntegerField w bs v.value

-- the letter of a side
abbrev pub letter_of : Side → ℕ
letter_of Bid = 66
letter_of Offer = 83

abbrev pub SideIs : List ℕ → Side → Type 0
SideIs bs v = bs ≡ letter_of v ∷ []

-- w spaces and no value, or the field of the value
abbrev pub OptionalIs : {A : Type 0} → ℕ → (List ℕ → A → Type 0) → List ℕ → Option A → Type 0
OptionalIs w Is bs None = (length bs ≡ w) × AllByRecursion Space bs
OptionalIs w Is bs (Some v) = Is bs v
