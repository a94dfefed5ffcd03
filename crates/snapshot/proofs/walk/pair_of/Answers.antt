use Rattle.std.proofs.Common.{[], ◌∷◌, Ok, sym, refl, ◌∙◌}
use Rattle.book.specs.declared.order.Side.TheVariants.{Bid, Offer}
use Rattle.snapshot.specs.declared.mark.Mark.TheVariants.{Lists}
use Rattle.snapshot.specs.Scanning.{◌⨟◌}
use Rattle.snapshot.specs.Snapshot.{side_at}
use Rattle.snapshot.proofs.Walks.{walked_ok, walked_then, moved, pair_read}
use Rattle.snapshot.proofs.walk.pair_of.Goals as goal

pub returns : goal.returns
returns g c =
    let v = c.in_ok-pair.pair in
    moved (g.K.Task.steps c.args.m.now) (pair_read g.V.Venue.form c.args.m.now c.args.at (sym c.next.ensures ∙ c.in_ok-pair.was))
    (walked_then (g.K.Task.steps c.args.m.now) (Ok (Lists c.args.at v ∷ [], c.in_ok-pair.bids_at)) (λ u. side_at g.V.Venue.form c.args.m.now v Bid u ⨟ λ r. side_at g.V.Venue.form c.args.m.now v Offer r) c.args.state.now c.visit.new.state _ c.in_ok-pair.bids_at _
    (walked_ok (g.K.Task.steps c.args.m.now) (Lists c.args.at v ∷ []) c.in_ok-pair.bids_at c.args.state.now c.visit.new.state (_, c.visit.ensures, refl))
    (walked_then (g.K.Task.steps c.args.m.now) (side_at g.V.Venue.form c.args.m.now v Bid c.in_ok-pair.bids_at) (λ r. side_at g.V.Venue.form c.args.m.now v Offer r) c.visit.new.state c.side_of.new.state _ _ _ c.in_ok-offers_at.ensures c.side_of-2.ensures))
