-- The tests of orders, asked of their rows; and the rows that are found by them.
use Rattle.std.specs.Prelude.{◌≡◌, ℕ, ◌<◌, ◌≤◌, Bool, true, false, cond, ◌&&◌, List, length, Some, None, Option, ◌==◌}
use Rattle.std.specs.List.{AllWithin, HoldsAt}
use Rattle.std.specs.Str.{bytes_eq}
use Rattle.fields.specs.Values.{Pair, Price}
use Rattle.book.specs.Sides.{before, sides_agree, leads}
use Rattle.book.specs.Ladder.{OrderId}
use Rattle.book.specs.declared.order.Side.{Side}
use Rattle.book.specs.declared.order.Order.{Order}
use Rattle.book.specs.declared.row.Row.{Row}

-- the row's order stays in front of o when o is placed
abbrev pub row_ahead : {R T : Type 0} → Row R → Order T → Bool
row_ahead x o =
    cond (bytes_eq x.pair o.pair.bytes) (leads x.side x.price o.side o.price.count) (before x.pair o.pair.bytes)

abbrev pub row_of_pair : {R : Type 0} → Pair → Row R → Bool
row_of_pair p x = bytes_eq x.pair p.bytes

abbrev pub row_named : {R : Type 0} → Pair → OrderId → Row R → Bool
row_named p i x = row_of_pair p x && bytes_eq x.id i.bytes

abbrev pub row_at_level : {R : Type 0} → Pair → Side → Price → Row R → Bool
row_at_level p s c x = row_of_pair p x && (sides_agree x.side s && x.price == c.count)

-- the row is at this pair, side and price, or behind: an order there leads it, or is level with it
abbrev pub row_from : {R : Type 0} → Pair → Side → Price → Row R → Bool
row_from p s c x = cond (bytes_eq p.bytes x.pair) (leads s c.count x.side x.price) (before p.bytes x.pair)

-- the rank of the first row that passes, or none where none does
abbrev pub First : {X : Type 0} → (X → Bool) → List X → Option ℕ → Type 0
First test rs None = AllWithin (λ x. test x ≡ false) rs 0 (length rs)
First test rs (Some k) = (k < length rs) × HoldsAt (λ x. test x ≡ true) rs k × AllWithin (λ x. test x ≡ false) rs 0 k

-- k rows, from the first, stay in front of o, and the next does not
abbrev pub AheadOf : {R T : Type 0} → Order T → List (Row R) → ℕ → Type 0
AheadOf o rs k =
    (k ≤ length rs) × AllWithin (λ x. row_ahead x o ≡ true) rs 0 k × (k < length rs → HoldsAt (λ x. row_ahead x o ≡ false) rs k)

-- k rows, from the first, hold all that are in front of this pair, side and price: the next, if there is one, is there or behind
abbrev pub FrontWithin : {R : Type 0} → Pair → Side → Price → List (Row R) → ℕ → Type 0
FrontWithin p s c rs k = (k ≤ length rs) × (k < length rs → HoldsAt (λ x. row_from p s c x ≡ true) rs k)
