use Rattle.std.proofs.Common.{sym, subst}
use Rattle.book.specs.declared.order.Side.TheVariants.{Bid, Offer}
use Rattle.snapshot.specs.Snapshot.{side_at}
use Rattle.snapshot.specs.Skims.{Skims, sides_at}
use Rattle.snapshot.proofs.Skims.{side_unmet, skims_off}
use Rattle.snapshot.proofs.skim.Sought.sides.Goals as goal

pub returns-in_err-offers : goal.returns-in_err-offers
returns-in_err-offers g c p =
    subst (λ a. Skims c.args.self.now.upto c.args.self.now.id.now (sides_at g.V.Venue.form c.args.self.now.m.now p c.args.at) a) (sym c.from_residual.ensures)
    (skims_off c.args.self.now.upto c.args.self.now.id.now (side_at g.V.Venue.form c.args.self.now.m.now p Bid c.args.at) (side_at g.V.Venue.form c.args.self.now.m.now p Offer) c.in_err-offers.field-0.0 (side_unmet g.V.Venue.form c.args.self.now.m.now p Offer c.args.self.now.upto c.args.self.now.id.now) (c.in_err-offers.ensures p Bid))
