use Rattle.snapshot.proofs.Skims.{pair_ends}
use Rattle.snapshot.proofs.skim.pair_end.Goals as goal

pub returns : goal.returns
returns g c = pair_ends g.V.Venue.form c.args.m.now c.args.at c.after.result c.side_end-offers.result c.side_end.result c.after.ensures c.side_end-offers.ensures c.side_end.ensures
