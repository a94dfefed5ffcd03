use Rattle.snapshot.proofs.Skims.{side_ends}
use Rattle.snapshot.proofs.skim.side_end.Goals as goal

pub returns : goal.returns
returns g c p s = side_ends g.V.Venue.form c.args.m.now p s c.args.at c.after.result c.count_at.result c.after.ensures c.count_at.ensures.read c.levels_end.result (c.levels_end.ensures p s)
