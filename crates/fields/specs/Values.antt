-- The values of the fields by their names.
use Rattle.std.specs.Prelude.{ℕ}
use denote.Param.{number}
use Rattle.fields.specs.declared.decimals.Decimal.{Decimal}
use Rattle.fields.specs.declared.texts.Text.{Text}
use Rattle.fields.specs.declared.kinds.PriceKind.{PriceKind}
use Rattle.fields.specs.declared.kinds.AmountKind.{AmountKind}
use Rattle.fields.specs.declared.kinds.QuantityKind.{QuantityKind}
use Rattle.fields.specs.declared.labels.LabelKind.{LabelKind}
use Rattle.fields.specs.declared.pairs.PairKind.{PairKind}
use Rattle.fields.specs.declared.times.TimeKind.{TimeKind}
use Rattle.fields.specs.contracts.kinds.PriceKindDecimalKind.TheImpl as price_kind
use Rattle.fields.specs.contracts.kinds.AmountKindDecimalKind.TheImpl as amount_kind
use Rattle.fields.specs.contracts.kinds.QuantityKindDecimalKind.TheImpl as quantity_kind
use Rattle.fields.specs.contracts.labels.LabelKindTextKind.TheImpl as label_kind
use Rattle.fields.specs.contracts.pairs.PairKindTextKind7.TheImpl as pair_kind
use Rattle.fields.specs.contracts.times.TimeKindTextKind9.TheImpl as time_kind

abbrev pub Price : Type 0
Price = Decimal PriceKind price_kind.ghosts

abbrev pub Amount : Type 0
Amount = Decimal AmountKind amount_kind.ghosts

abbrev pub Quantity : Type 0
Quantity = Decimal QuantityKind quantity_kind.ghosts

abbrev pub Label : ℕ → Type 0
Label n = Text LabelKind n (label_kind.ghosts (number n))

abbrev pub Pair : Type 0
Pair = Text PairKind 7 pair_kind.ghosts

abbrev pub TimeOfDay : Type 0
TimeOfDay = Text TimeKind 9 time_kind.ghosts
