use Rattle.std.proofs.Common.{◌≡◌, Some, rules, sym, ◌∙◌, subst}
use Rattle.std.specs.Result.{result_map_both}
use Rattle.apply.specs.Checked.{Checked}
use Rattle.apply.proofs.Counted.{short_so, blank_so, check_so}
use Rattle.apply.proofs.snapshots.checked.Goals as goal

pub returns-then-m-lt7 : goal.returns-then-m-lt7
returns-then-m-lt7 g c = short_so g.V.Venue.form c.args.m.now c.if-m-lt7.true

pub returns-then-is_blank : goal.returns-then-is_blank
returns-then-is_blank g c = blank_so g.V.Venue.form c.args.m.now c.if-m-lt7.false (sym c.if-is_blank.ensures)

pub returns : goal.returns
returns g c =
    let F = g.V.Venue.form in
    let m = c.args.m.now in
    let is : c.map.result ≡ result_map_both Some (λ e. e) c.check.result = search rules in
    subst (Checked F m) (sym is) (check_so F m c.check.result c.if-m-lt7.false (sym c.is_blank.ensures ∙ c.if-is_blank.false) c.check.ensures)
