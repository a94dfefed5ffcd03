use Rattle.std.proofs.Common.{arith}
use Rattle.std.proofs.lemmas.Fmt.{length-decimal-le}
use Rattle.digits.proofs.Fronts.{pow10_le}
use Rattle.fields.proofs.integers.Integer.write.Goals as goal

pub invariant_of-text : goal.invariant_of-text
invariant_of-text g c = let h = c.args.self.now.ok in record { fits = length-decimal-le g.row.W c.args.self.now.value h.0 h.2 (omega (arith, h.2, pow10_le g.row.W 18 h.1)) }
