-- What the calls on quotes answer.
use Rattle.std.specs.Prelude.{◌≡◌, ℕ, List, Some, None, Ok, Err, Result}
use Rattle.fields.specs.Values.{Pair, Price}
use Rattle.book.specs.Ladder.{OrderId, lookup, at_rank, placed, without}
use Rattle.book.specs.Calls.{number}
use Rattle.book.specs.declared.ladder.BookFault.{BookFault}
use Rattle.book.specs.declared.order.Order.{Order}

-- the order at another price
abbrev pub repriced : {T : Type 0} → Price → Order T → Order T
repriced c x = record { pair = x.pair; side = x.side; id = x.id; price = c; amount = x.amount; terms = x.terms }

-- reprice: 31 if no such order stands; otherwise it is taken off and placed again on its side, at the new price
abbrev pub Reprice : {T : Type 0} → List (Order T) → Pair → OrderId → Price → Result (Unit {0}) BookFault → List (Order T) → Type 0
Reprice {T} l p i c (Ok _) l' = (x : Order T) × (lookup p i l ≡ Some x) × (l' ≡ placed (repriced c x) (without p i l))
Reprice l p i c (Err e) l' = (number e ≡ 31) × (lookup p i l ≡ None) × (l' ≡ l)

-- requote: the same, and the order stands at the rank told
abbrev pub Requote : {T : Type 0} → List (Order T) → Pair → OrderId → Price → Result ℕ BookFault → List (Order T) → Type 0
Requote {T} l p i c (Ok k) l' = (x : Order T) × (lookup p i l ≡ Some x) × (l' ≡ placed (repriced c x) (without p i l)) × (at_rank l' k ≡ Some (repriced c x))
Requote l p i c (Err e) l' = (number e ≡ 31) × (lookup p i l ≡ None) × (l' ≡ l)
