use Rattle.std.proofs.Common.{◌∙◌}
use Rattle.fields.specs.declared.decimals.Decimal.{Decimal}
use Rattle.readers.proofs.Asks.{asked}
use Rattle.readers.specs.Lawful.{decimal_law}
use Rattle.readers.proofs.decimals.DecimalField.read.Goals as goal

pub returns : goal.returns
returns g c =
    c.ok.ensures.value
    ∙ asked g.K.DecimalKind.field (λ (v : Decimal _ g.K.DecimalKind). v.count) (decimal_law g.K.DecimalKind) c.args.bytes.now c.read.result c.read.ensures
