-- What a snapshot does to a ladder.
use Rattle.std.specs.Prelude.{ℕ, ◌+◌, Bool, false, ◌||◌, List, [], ◌∷◌, length}
use Rattle.fields.specs.Values.{Pair}
use Rattle.book.specs.Ladder.{same_pair, cleared, placed_all}
use Rattle.book.specs.declared.order.Order.{Order}
use Rattle.snapshot.specs.declared.mark.Mark.{Mark}
use Rattle.snapshot.specs.declared.mark.Mark.TheVariants.{Lists, Puts}

-- some pair of the list is p
abbrev pub lists : List Pair → Pair → Bool
lists [] p = false
lists (q ∷ qs) p = same_pair q p || lists qs p

module _ {T : Type 0} where
  -- the pairs that a snapshot lists, and the orders that it puts, as listed
  abbrev pub pairs_listed : List (Mark T) → List Pair
  pairs_listed [] = []
  pairs_listed (Lists p c ∷ ms) = c ∷ pairs_listed ms
  pairs_listed (Puts p o ∷ ms) = pairs_listed ms

  abbrev pub orders_put : List (Mark T) → List (Order T)
  orders_put [] = []
  orders_put (Lists p c ∷ ms) = orders_put ms
  orders_put (Puts p o ∷ ms) = o ∷ orders_put ms

  -- the ladder without the orders of any of these pairs
  abbrev pub cleared_all : List Pair → List (Order T) → List (Order T)
  cleared_all [] l = l
  cleared_all (p ∷ ps) l = cleared_all ps (cleared p l)

  -- the orders that stay, and those that are put
  abbrev pub room_needed : List (Mark T) → List (Order T) → ℕ
  room_needed ms l = length (cleared_all (pairs_listed ms) l) + length (orders_put ms)

  -- the ladder without the orders of the pairs listed, and then with the orders put, as listed
  abbrev pub replaced : List (Mark T) → List (Order T) → List (Order T)
  replaced ms l = placed_all (cleared_all (pairs_listed ms) l) (orders_put ms)
