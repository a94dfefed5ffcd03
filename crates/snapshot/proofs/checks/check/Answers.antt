use Rattle.std.proofs.Common.{Err, sym, ap, ◌∙◌, rules}
use Rattle.std.proofs.lemmas.Result.{err_from_is_err_and}
use Rattle.snapshot.specs.Snapshot.{snapshot_of}
use Rattle.snapshot.proofs.Checking.{checked_so, checked_fault}
use Rattle.snapshot.proofs.checks.check.Goals as goal

pub returns-in_err-visit_marks : goal.returns-in_err-visit_marks
returns-in_err-visit_marks g c =
    let p = err_from_is_err_and c.from_residual.result c.from_residual.ensures.1 in
    p.1 ∙ ap Err p.2 ∙ sym (checked_fault (snapshot_of g.V.Venue.form c.args.m.now) _ c.in_err-visit_marks.ensures.answer)

pub returns : goal.returns
returns g c = c.outcome.ensures ∙ checked_so g.V.Venue.form c.args.m.now c.default-seen.result c.visit_marks.new.state _ (record { first = search rules; pairs = search rules; orders = search rules }) c.in_ok-visit_marks.ensures
