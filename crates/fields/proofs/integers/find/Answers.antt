use Rattle.std.proofs.Common.{◌^◌, ◌<◌, sym, subst, arith}
use Rattle.fields.specs.Fields.{IntegerField}
use Rattle.fields.proofs.Counting.{none_found}
use Rattle.fields.proofs.integers.find.Goals as goal

pub returns-in_err-value : goal.returns-in_err-value
returns-in_err-value g c =
    none_found (IntegerField g.row.W) (λ n. n.value) c.args.bytes.now c.from_residual.result c.from_residual.ensures
    (λ m h. c.in_err-value.ensures m (omega (arith, h.2.1), h.1, subst (λ w. m < 10 ^ w) (sym h.0) h.2.2))
