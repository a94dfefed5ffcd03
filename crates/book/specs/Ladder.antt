-- The ladder of standing orders, and the changes of it.
use Rattle.std.specs.Prelude.{◌≡◌, ℕ, zero, suc, Bool, true, false, cond, not, ◌&&◌, ◌||◌, ◌⊎◌, List, [], ◌∷◌, ◌++◌, Some, None, Option, ◌==◌}
use Rattle.std.specs.Str.{bytes_eq}
use Rattle.std.specs.List.{AllByRecursion, list_all}
use Rattle.fields.specs.Values.{Pair, Label, Price, Amount}
use Rattle.book.specs.Sides.{before, sides_agree, leads, AsGood}
use Rattle.book.specs.declared.order.Side.{Side}
use Rattle.book.specs.declared.order.Side.TheVariants.{Bid, Offer}
use Rattle.book.specs.declared.order.Order.{Order}

abbrev pub OrderId : Type 0
OrderId = Label 15

abbrev pub same_pair : Pair → Pair → Bool
same_pair p q = bytes_eq p.bytes q.bytes

-- x, standing already, stays in front of o when o is placed
unfoldable pub ahead : {T : Type 0} → Order T → Order T → Bool
ahead x o =
    cond (same_pair x.pair o.pair) (leads x.side x.price.count o.side o.price.count) (before x.pair.bytes o.pair.bytes)

-- the same in words: its pair comes first in byte order; or it is of o's pair, and a bid where o is an offer, or of o's
-- side at a better or an equal price
abbrev pub Ahead : {T : Type 0} → Order T → Order T → Type 0
Ahead x o =
    (before x.pair.bytes o.pair.bytes ≡ true)
    ⊎ ((x.pair ≡ o.pair) × (((x.side ≡ Bid) × (o.side ≡ Offer)) ⊎ ((x.side ≡ o.side) × AsGood o.side x.price.count o.price.count)))

-- x has this pair and this id
unfoldable pub named : {T : Type 0} → Pair → OrderId → Order T → Bool
named p i x = same_pair x.pair p && bytes_eq x.id.bytes i.bytes

-- x is of this pair, side and price
unfoldable pub at_level : {T : Type 0} → Pair → Side → Price → Order T → Bool
at_level p s c x = same_pair x.pair p && (sides_agree x.side s && x.price.count == c.count)

-- the ladder's order: each is ahead of all that stand behind it
abbrev pub in_order : {T : Type 0} → List (Order T) → Bool
in_order [] = true
in_order (x ∷ xs) = list_all (λ y. ahead x y) xs && in_order xs

-- an order of this pair and id stands
abbrev pub stands : {T : Type 0} → Pair → OrderId → List (Order T) → Bool
stands p i [] = false
stands p i (x ∷ xs) = named p i x || stands p i xs

-- no id stands twice in a pair
abbrev pub apart : {T : Type 0} → List (Order T) → Bool
apart [] = true
apart (x ∷ xs) = not (stands x.pair x.id xs) && apart xs

-- the standing order of a pair and id
abbrev pub lookup : {T : Type 0} → Pair → OrderId → List (Order T) → Option (Order T)
lookup p i [] = None
lookup p i (x ∷ xs) = cond (named p i x) (Some x) (lookup p i xs)

-- the order at a rank
abbrev pub at_rank : {T : Type 0} → List (Order T) → ℕ → Option (Order T)
at_rank [] k = None
at_rank (x ∷ xs) zero = Some x
at_rank (x ∷ xs) (suc k) = at_rank xs k

-- placing: the ladder opens between the orders that stay in front of o and those that do not, and no other order moves
pub record Placed {T : Type 0} (o : Order T) (l l' : List (Order T)) : Type 0 where
  pub front : List (Order T)
  pub back : List (Order T)
  pub was : l ≡ front ++ back
  pub is : l' ≡ front ++ (o ∷ back)
  pub ahead_of : AllByRecursion (λ x. ahead x o ≡ true) front
  pub behind : AllByRecursion (λ x. ahead x o ≡ false) back

-- the ladder with o placed
abbrev pub placed : {T : Type 0} → Order T → List (Order T) → List (Order T)
placed o [] = o ∷ []
placed o (x ∷ xs) = cond (ahead x o) (x ∷ placed o xs) (o ∷ x ∷ xs)

-- the ladder after the orders of a list are placed, one after another
abbrev pub placed_all : {T : Type 0} → List (Order T) → List (Order T) → List (Order T)
placed_all l [] = l
placed_all l (o ∷ os) = placed_all (placed o l) os

-- the order with another amount and other terms
abbrev pub reset : {T : Type 0} → Amount → T → Order T → Order T
reset a t x = record { pair = x.pair; side = x.side; id = x.id; price = x.price; amount = a; terms = t }

-- the ladder with amount and terms set at the order of a pair and id
abbrev pub amended : {T : Type 0} → Pair → OrderId → Amount → T → List (Order T) → List (Order T)
amended p i a t [] = []
amended p i a t (x ∷ xs) = cond (named p i x) (reset a t x) x ∷ amended p i a t xs

-- the ladder without the order of a pair and id
abbrev pub without : {T : Type 0} → Pair → OrderId → List (Order T) → List (Order T)
without p i [] = []
without p i (x ∷ xs) = cond (named p i x) (without p i xs) (x ∷ without p i xs)

-- the ladder without the orders of a pair
abbrev pub cleared : {T : Type 0} → Pair → List (Order T) → List (Order T)
cleared p [] = []
cleared p (x ∷ xs) = cond (same_pair x.pair p) (cleared p xs) (x ∷ cleared p xs)

-- a list of orders is a ladder
pub record Ladder {T : Type 0} (l : List (Order T)) : Type 0 where
  pub sorted : in_order l ≡ true
  pub distinct : apart l ≡ true
