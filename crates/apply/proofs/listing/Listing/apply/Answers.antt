use Rattle.std.proofs.Common.{◌+◌, leb, Ok, sym, refl, ap, ◌∙◌}
use Rattle.std.proofs.lemmas.Bool.{leb-true}
use Rattle.book.specs.declared.ladder.BookFault.TheVariants.{Full}
use Rattle.orders.specs.Applied.{refusal}
use Rattle.apply.specs.Marks.{marks}
use Rattle.apply.proofs.Counted.{whole}
use Rattle.apply.proofs.Wholes.{room_test, after_ok, after_full}
use Rattle.apply.proofs.listing.Listing.apply.Goals as goal

pub returns-then-not-has_room-clause-applied : goal.returns-then-not-has_room-clause-applied
returns-then-not-has_room-clause-applied g c =
    let F = g.V.Venue.form in
    let m = c.args.self.now.m.now in
    let n = c.args.self.now.counts in
    let b = c.args.book.now in
    let l = g.B.Book.ladder b in
    let stay = c.kept-stay.result in
    let over = sym (room_test (g.B.Book.capacity b) stay n.orders (marks F m) l c.kept-stay.ensures (whole F m n c.args.self.now.was_checked).orders) ∙ ap (λ k. leb (stay + n.orders) k) (sym c.capacity.ensures) ∙ sym c.has_room.ensures ∙ c.if-not-has_room.true in
    (refusal Full 0, after_full (g.B.Book.capacity b) (marks F m) l over, c.into.ensures, refl)

pub returns-clause-applied : goal.returns-clause-applied
returns-clause-applied g c =
    let F = g.V.Venue.form in
    let m = c.args.self.now.m.now in
    let n = c.args.self.now.counts in
    let b = c.args.book.now in
    let l = g.B.Book.ladder b in
    let stay = c.kept-stay.result in
    let under = sym (room_test (g.B.Book.capacity b) stay n.orders (marks F m) l c.kept-stay.ensures (whole F m n c.args.self.now.was_checked).orders) ∙ ap (λ k. leb (stay + n.orders) k) (sym c.capacity.ensures) ∙ sym c.has_room.ensures ∙ c.if-not-has_room.false in
    after_ok (g.B.Book.capacity b) (marks F m) l under ∙ ap Ok (sym (c.replace.ensures.ladder (leb-true _ _ under)))
