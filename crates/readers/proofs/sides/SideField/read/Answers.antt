use Rattle.std.proofs.Common.{length, sym, ◌∙◌, arith}
use Rattle.std.proofs.lemmas.Bool.{cond-true, cond-false, eq-eqb, ne_eqb}
use Rattle.readers.specs.Values.{side_of}
use Rattle.readers.proofs.sides.SideField.read.Goals as goal

pub returns-in_default : goal.returns-in_default
unfolding side_of
returns-in_default c = sym (cond-false _ _ _ (ne_eqb (length c.args.bytes.now) 1 (λ e. omega arith)))

pub returns-in_default-2 : goal.returns-in_default-2
unfolding side_of
returns-in_default-2 c = sym (cond-false _ _ _ (ne_eqb (length c.args.bytes.now) 1 (λ e. omega arith)))

pub returns : goal.returns
unfolding side_of
returns c = c.side_of.ensures ∙ sym (cond-true _ _ _ (eq-eqb (length c.args.bytes.now) 1 (omega arith)))
