use Rattle.std.proofs.Common.{[], ◌+◌, ◌/◌, ◌%◌, decimal, length, set, sym, ap, ◌∙◌, arith}
use Rattle.std.proofs.lemmas.Fmt.{decimal_digit}
use Rattle.digits.specs.Written.{overwritten}
use Rattle.digits.proofs.Writes.{length_digit, length_step, put_last, push_over}
use Rattle.digits.proofs.runs.+put_figures.Goals as goal

pub put_digit-requires : goal.put_digit-requires
put_digit-requires t c = (omega (arith, length_digit c.args.n c.if-n-lt10.true), omega arith)

pub returns-then-n-lt10-clause-len : goal.returns-then-n-lt10-clause-len
returns-then-n-lt10-clause-len t c = sym (length_digit c.args.n c.if-n-lt10.true)

pub returns-then-n-lt10-clause-text : goal.returns-then-n-lt10-clause-text
returns-then-n-lt10-clause-text t c =
    c.put_digit.ensures ∙ push_over [] c.args.out.now _ (omega (arith, length_digit c.args.n c.if-n-lt10.true)) ∙ ap (λ t. overwritten t c.args.out.now) (sym (decimal_digit c.args.n c.if-n-lt10.true))

pub put_figures-at-requires : goal.put_figures-at-requires
put_figures-at-requires t c = (omega arith, omega (arith, length_step c.args.n c.if-n-lt10.false (omega arith)))

pub put_digit-requires-2 : goal.put_digit-requires-2
put_digit-requires-2 t c = (omega (arith, length_step c.args.n c.if-n-lt10.false (omega arith)), omega arith)

pub returns-clause-len : goal.returns-clause-len
returns-clause-len t c = omega (arith, length_step c.args.n c.if-n-lt10.false (omega arith))

pub returns-clause-text : goal.returns-clause-text
returns-clause-text t c =
    c.put_digit-2.ensures ∙ ap (λ i. set c.put_figures-at.new.out i (48 + c.args.n % 10)) c.put_figures-at.ensures.len
    ∙ ap (λ o. set o (length (decimal (c.args.n / 10))) (48 + c.args.n % 10)) c.put_figures-at.ensures.text
    ∙ put_last c.args.out.now c.args.n c.requires c.if-n-lt10.false (omega arith)
