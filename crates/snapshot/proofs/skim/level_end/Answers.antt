use Rattle.snapshot.proofs.Skims.{level_ends}
use Rattle.snapshot.proofs.skim.level_end.Goals as goal

pub returns : goal.returns
returns g c p s = level_ends g.V.Venue.form c.args.m.now p s c.args.at c.level_count.result c.level_count.ensures.read c.orders_end.result c.orders_end.ensures
