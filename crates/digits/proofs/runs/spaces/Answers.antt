use Rattle.std.proofs.Common.{Decides, drop, ap, ◌∙◌, subst}
use Rattle.std.specs.List.{AllByRecursion}
use Rattle.std.proofs.lemmas.List.{drop_min}
use Rattle.digits.specs.Bytes.{Space}
use Rattle.digits.proofs.Writes.{rest_of}
use Rattle.digits.proofs.runs.spaces.Goals as goal

pub returns : goal.returns
returns c =
    let s = c.args.s.now in
    subst (λ l. Decides c.all_spaces.result (AllByRecursion Space l)) (rest_of c.min.result s ∙ ap (λ i. drop i s) c.min.ensures ∙ drop_min c.args.from s) c.all_spaces.ensures
