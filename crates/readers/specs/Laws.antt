-- The laws of the readings.
use Rattle.std.specs.Prelude.{◌≡◌, ℕ, List, length, Some, Option}
use Rattle.std.specs.List.{AllByRecursion}
use Rattle.digits.specs.Bytes.{Space}
use Rattle.readers.specs.Values.{pair_of, label_of, time_of, price_of, amount_of, quantity_of, integer_of, side_of, PairIs, LabelIs, TimeIs, PriceIs, AmountIs, QuantityIs, IntegerIs, SideIs}

-- what a field of `wide` bytes reads is the value whose field the bytes are, and every such value is read
pub record FieldLaw {V : Type 0} (wide : ℕ) (Is : List ℕ → V → Type 0) (reads : List ℕ → Option V) : Type 0 where
  pub sound : (bs : List ℕ) (v : V) → reads bs ≡ Some v → Is bs v
  pub complete : (bs : List ℕ) (v : V) → Is bs v → reads bs ≡ Some v
  pub long : (bs : List ℕ) (v : V) → Is bs v → length bs ≡ wide

-- a field that is never all spaces
abbrev pub BlankFree : {V : Type 0} → (List ℕ → V → Type 0) → Type 0
BlankFree {V} Is = (bs : List ℕ) (v : V) → Is bs v → AllByRecursion Space bs → ⊥

pub record ReaderLaws : Type 0 where
  pub pair : FieldLaw 7 PairIs pair_of
  pub label : (n : ℕ) → FieldLaw n (LabelIs n) (label_of n)
  pub time : FieldLaw 9 TimeIs time_of
  pub price : FieldLaw 10 PriceIs price_of
  pub amount : FieldLaw 16 AmountIs amount_of
  pub quantity : FieldLaw 16 QuantityIs quantity_of
  pub integer : (w : ℕ) → FieldLaw w (IntegerIs w) (integer_of w)
  pub side : FieldLaw 1 SideIs side_of
  -- only a quantity may be all spaces
  pub pair_filled : BlankFree PairIs
  pub label_filled : (n : ℕ) → BlankFree (LabelIs n)
  pub time_filled : BlankFree TimeIs
  pub price_filled : BlankFree PriceIs
  pub amount_filled : BlankFree AmountIs
  pub integer_filled : (w : ℕ) → BlankFree (IntegerIs w)
  pub side_filled : BlankFree SideIs
