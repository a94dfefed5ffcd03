use Rattle.std.proofs.Common.{◌∙◌}
use Rattle.fields.specs.declared.texts.Text.{Text}
use Rattle.fields.specs.Texts.{Kept}
use Rattle.readers.proofs.Asks.{asked}
use Rattle.readers.specs.Lawful.{text_law}
use Rattle.readers.proofs.texts.TextField.read.Goals as goal

pub returns : goal.returns
returns g c =
    c.ok.ensures.value
    ∙ asked (Kept g.K.TextKind.form) (λ (v : Text _ g.row.N g.K.TextKind). v.bytes) (text_law g.row.N g.K.TextKind g.met.K.TextKind.laws) c.args.bytes.now c.read.result c.read.ensures
