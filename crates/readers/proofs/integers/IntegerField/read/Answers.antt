use Rattle.std.proofs.Common.{◌∙◌}
use Rattle.fields.specs.declared.integers.Integer.{Integer}
use Rattle.fields.specs.Fields.{IntegerField}
use Rattle.readers.proofs.Asks.{asked}
use Rattle.readers.specs.Lawful.{integer_law}
use Rattle.readers.proofs.integers.IntegerField.read.Goals as goal

pub returns : goal.returns
returns g c = c.ok.ensures.value ∙ asked (IntegerField g.row.W) (λ (v : Integer g.row.W). v.value) (integer_law g.row.W) c.args.bytes.now c.read.result c.read.ensures
