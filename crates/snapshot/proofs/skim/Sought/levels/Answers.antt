use Rattle.std.proofs.Common.{rules}
use Rattle.snapshot.specs.Snapshot.{level_at}
use Rattle.snapshot.proofs.Skims.{level_unmet, skims_tried}
use Rattle.snapshot.proofs.skim.Sought.levels.Goals as goal

pub returns : goal.returns
returns g c p s =
    let ran = c.try_fold.ensures.ran in
    skims_tried c.args.self.now.upto c.args.self.now.id.now (level_at g.V.Venue.form c.args.self.now.m.now p s) _ _ (λ at x q h. (search rules, search rules)) (level_unmet g.V.Venue.form c.args.self.now.m.now p s c.args.self.now.upto c.args.self.now.id.now) c.args.n c.args.at ran.0 _ ran.5 _ c.try_fold.result ran.1 ran.4 ran.6 (λ h. h) (λ x e h. (h.2.0, search rules, h.5))
