use Rattle.std.proofs.Common.{ℕ, subst, rules}
use Rattle.snapshot.specs.Scanning.{times}
use Rattle.snapshot.specs.Skims.{Ends}
use Rattle.snapshot.specs.Snapshot.{level_at}
use Rattle.snapshot.proofs.Skims.{drained, ends_folded}
use Rattle.snapshot.proofs.skim.levels_end.Goals as goal

pub returns : goal.returns
returns g c p s =
    let ran = c.fold.ensures.ran in
    subst (λ (n : ℕ). Ends (times (level_at g.V.Venue.form c.args.m.now p s) n c.args.at) c.fold.result) (drained ran.0 _ _ ran.2.1)
    (ends_folded (level_at g.V.Venue.form c.args.m.now p s) _ _ (λ at x q h. (search rules, search rules)) ran.0 c.args.at _ ran.3)
