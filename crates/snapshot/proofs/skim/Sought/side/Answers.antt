use Rattle.snapshot.proofs.Skims.{side_skims}
use Rattle.snapshot.proofs.skim.Sought.side.Goals as goal

pub returns : goal.returns
returns g c p s = side_skims g.V.Venue.form c.args.self.now.m.now p s c.args.at c.after.result c.count_at.result c.after.ensures c.count_at.ensures.read c.args.self.now.upto c.args.self.now.id.now c.levels.result (c.levels.ensures p s)
