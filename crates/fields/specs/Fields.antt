-- The grammar of each field: which bytes are the field of which number or text; and the text that is written.
use Rattle.std.specs.Prelude.{◌≡◌, ℕ, cond, ◌⊎◌, List, [], length, decimal, ◌==◌}
use Rattle.digits.specs.Numerals.{DecimalField, Whole}
use Rattle.fields.specs.Ranges.{PriceCount, AmountCount, QuantityCount, IntegerValue}
use Rattle.digits.specs.Written.{written, padded, justified}
use Rattle.fields.specs.Decimals.{Blank}
use Rattle.fields.specs.Texts.{Kept}
use Rattle.fields.specs.Forms.{Labelled, Paired, Timed}

-- 10 bytes, at most five decimals
abbrev pub PriceField : List ℕ → ℕ → Type 0
PriceField bs n = DecimalField 10 5 bs n × PriceCount n

-- 16 bytes, at most two decimals
abbrev pub AmountField : List ℕ → ℕ → Type 0
AmountField bs n = DecimalField 16 2 bs n × AmountCount n

-- 16 spaces
abbrev pub BlankField : List ℕ → Type 0
BlankField = Blank 16

-- an amount's field, that may also be zero or all spaces, which count 0
abbrev pub QuantityField : List ℕ → ℕ → Type 0
QuantityField bs n = (DecimalField 16 2 bs n ⊎ (BlankField bs × (n ≡ 0))) × QuantityCount n

-- spaces and digits in `width` bytes
abbrev pub IntegerField : ℕ → List ℕ → ℕ → Type 0
IntegerField width bs n = (length bs ≡ width) × Whole bs n × IntegerValue width n

abbrev pub LabelField : ℕ → List ℕ → List ℕ → Type 0
LabelField width = Kept (Labelled width)

abbrev pub PairField : List ℕ → List ℕ → Type 0
PairField = Kept Paired

abbrev pub TimeField : List ℕ → List ℕ → Type 0
TimeField = Kept Timed

abbrev pub price_text : ℕ → List ℕ
price_text n = padded 10 (written 5 n)

abbrev pub amount_text : ℕ → List ℕ
amount_text n = padded 16 (written 2 n)

-- no restriction is written as spaces
abbrev pub quantity_text : ℕ → List ℕ
quantity_text n = padded 16 (cond (n == 0) [] (written 2 n))

abbrev pub integer_text : ℕ → ℕ → List ℕ
integer_text width n = justified width (decimal n)
