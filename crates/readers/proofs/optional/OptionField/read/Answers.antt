use Rattle.std.proofs.Common.{Some, sym, ap, ◌∙◌}
use Rattle.std.specs.Option.{option_map}
use Rattle.std.proofs.lemmas.Bool.Decides.{not_from_Decides}
use Rattle.readers.specs.Blanks.{blank_read, filled_read}
use Rattle.readers.proofs.optional.OptionField.read.Goals as goal

pub returns-then-is_blank : goal.returns-then-is_blank
returns-then-is_blank g c =
    let h = c.is_blank.ensures.0 c.if-is_blank.true in
    blank_read g.F.Field.WIDTH g.F.Field.reads c.args.bytes.now (h.0 ∙ c.WIDTH.ensures, h.1)

pub returns : goal.returns
returns g c =
    ap (option_map Some) c.in_ok-value.ensures
    ∙ filled_read g.F.Field.WIDTH g.F.Field.reads c.args.bytes.now
    (λ h. not_from_Decides _ c.is_blank.ensures c.if-is_blank.false (h.0 ∙ sym c.WIDTH.ensures, h.1))

pub returns-in_err-value : goal.returns-in_err-value
returns-in_err-value g c =
    c.from_residual.ensures
    ∙ ap (option_map Some) c.in_err-value.ensures
    ∙ filled_read g.F.Field.WIDTH g.F.Field.reads c.args.bytes.now
    (λ h. not_from_Decides _ c.is_blank.ensures c.if-is_blank.false (h.0 ∙ sym c.WIDTH.ensures, h.1))
