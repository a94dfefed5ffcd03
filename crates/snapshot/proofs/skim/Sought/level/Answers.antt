use Rattle.std.proofs.Common.{sym}
use Rattle.snapshot.proofs.Skims.{level_skims_met, level_skims_on, level_skims_past}
use Rattle.snapshot.proofs.skim.Sought.level.Goals as goal

pub returns-then-at-self : goal.returns-then-at-self
returns-then-at-self g c p s = level_skims_past g.V.Venue.form c.args.self.now.m.now p s c.args.self.now.upto c.args.self.now.id.now c.args.at c.if-at-self.true

pub returns-then-met : goal.returns-then-met
returns-then-met g c p s =
    level_skims_met g.V.Venue.form c.args.self.now.m.now p s c.args.at c.level_count-count.result c.level_count-count.ensures.read c.args.self.now.upto c.args.self.now.id.now
    c.id_place.result c.order_size.result c.after-ids.result c.id_place.ensures c.order_size.ensures c.after-ids.ensures (sym c.if-met.ensures)

pub returns : goal.returns
returns g c p s =
    level_skims_on g.V.Venue.form c.args.self.now.m.now p s c.args.at c.level_count-count.result c.level_count-count.ensures.read c.args.self.now.upto c.args.self.now.id.now
    c.id_place.result c.order_size.result c.after-ids.result c.id_place.ensures c.order_size.ensures c.after-ids.ensures c.orders_end.result (sym c.if-met.ensures) c.orders_end.ensures
