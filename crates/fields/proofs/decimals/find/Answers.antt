use Rattle.fields.proofs.Counting.{count_found, no_count_found}
use Rattle.fields.proofs.decimals.find.Goals as goal

pub returns : goal.returns
returns g c =
    let l = g.K.DecimalKind.laws in
    count_found g.K.DecimalKind.WIDTH g.K.DecimalKind.PLACES g.K.DecimalKind.may g.K.DecimalKind.field (λ d. d.count) (λ d. d.ok) l.is_text l.is_field c.args.bytes.now c.in_ok-count_in.field-0 c.from_count.result c.in_ok-count_in.ensures c.from_count.ensures

pub returns-in_err-count_in : goal.returns-in_err-count_in
returns-in_err-count_in g c =
    let l = g.K.DecimalKind.laws in
    no_count_found g.K.DecimalKind.WIDTH g.K.DecimalKind.PLACES g.K.DecimalKind.may g.K.DecimalKind.field (λ d. d.count) (λ d. d.ok) l.is_text l.is_field c.args.bytes.now c.from_residual.result c.from_residual.ensures c.in_err-count_in.ensures
