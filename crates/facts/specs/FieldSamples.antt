-- Examples of fields, as facts about the definitions.
use Rattle.std.specs.Prelude.{◌≡◌, ℕ, List, [], codes}
use Rattle.fields.specs.Fields.{PriceField, AmountField, QuantityField, price_text}
use Rattle.digits.specs.Written.{padded}

-- no number has these bytes as its field
abbrev pub None : (List ℕ → ℕ → Type 0) → List ℕ → Type 0
None Field bs = (n : ℕ) → Field bs n → ⊥

pub record FieldSamples : Type 0 where
  -- "1.50200" counts 150,200 and is written "1.502"
  pub price : PriceField (padded 10 (codes "1.50200")) 150200
  pub written_price : price_text 150200 ≡ padded 10 (codes "1.502")
  pub highest : PriceField (codes "9999.99999") 999999999
  pub too_high : None PriceField (padded 10 (codes "10000"))
  pub zero_price : None PriceField (padded 10 (codes "0.00000"))
  pub six_decimals : None PriceField (padded 10 (codes "1.123456"))
  pub bare_point : None PriceField (padded 10 (codes "5."))
  pub no_whole : None PriceField (padded 10 (codes ".5"))
  pub largest : AmountField (padded 16 (codes "10000000000000")) 1000000000000000
  pub too_large : None AmountField (codes "10000000000000.1")
  -- no restriction, and no amount
  pub blank : QuantityField (padded 16 []) 0
  pub zero : QuantityField (padded 16 (codes "0")) 0
  pub zero_point : QuantityField (padded 16 (codes "0.0")) 0
  pub blank_amount : None AmountField (padded 16 [])
  pub zero_amount : None AmountField (padded 16 (codes "0"))
  pub zero_point_amount : None AmountField (padded 16 (codes "0.0"))
