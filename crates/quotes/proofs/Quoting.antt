-- An order that is given another price stands at the rank that is told.
use Rattle.std.proofs.Common.{◌≡◌, ℕ, true, List, Some, None, Option, Ok, sym, ap, ◌∙◌, arith}
use Rattle.std.specs.Option.{ok_or}
use Rattle.fields.specs.Values.{Pair, Price}
use Rattle.book.specs.Ladder.{OrderId, apart, named, lookup}
use Rattle.book.specs.Calls.{Finds}
use Rattle.book.specs.declared.ladder.BookFault.TheVariants.{NotStanding}
use Rattle.book.specs.declared.order.Order.{Order}
use Rattle.book.specs.Ladders.{finds_stands}
use Rattle.book.specs.Lookups.{lookup_none, lookup_rank}
use Rattle.quotes.specs.Quotes.{repriced, Reprice, Requote}
use Rattle.quotes.proofs.Repriced.{lookup_repriced}

module _ {T : Type 0} (l : List (Order T)) (p : Pair) (i : OrderId) (c : Price) (l' : List (Order T)) (apart-still : apart l' ≡ true) (done : Reprice l p i c (Ok tt) l') where
  found : lookup p i l' ≡ Some (repriced c done.0)
  found = ap (lookup p i) done.2 ∙ lookup_repriced p i c done.0 l done.1

  pub at_its_rank : (k : ℕ) → Finds (named p i) l' (Some k) → Requote l p i c (Ok k) l'
  at_its_rank k f = (done.0, done.1, done.2, sym (lookup_rank p i l' k apart-still f.0 f.1) ∙ found)

  pub not_nowhere : Finds (named p i) l' None → ⊥
  not_nowhere f =
      let none = lookup_none p i l' (finds_stands p i l' None f) in
      let both = sym none ∙ found in
      let z : ◌≡◌ {A = ℕ} 0 1 = cc in
      omega arith

  pub told : (r : Option ℕ) → Finds (named p i) l' r → Requote l p i c (ok_or r NotStanding) l'
  told None f = absurd (not_nowhere f)
  told (Some k) f = at_its_rank k f
