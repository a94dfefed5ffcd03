-- The order of bytes, of sides and of prices.
use Rattle.std.specs.Prelude.{ℕ, ◌≤◌, Bool, true, false, cond, List, [], ◌∷◌, ◌==◌, nat_le, nat_lt}
use lib.Chars.{codes}
use Rattle.book.specs.declared.order.Side.{Side}
use Rattle.book.specs.declared.order.Side.TheVariants.{Bid, Offer}

-- s comes before t in byte order: the first byte that differs decides
abbrev pub before : List ℕ → List ℕ → Bool
before [] [] = false
before [] (t ∷ ts) = true
before (s ∷ ss) [] = false
before (s ∷ ss) (t ∷ ts) = cond (s == t) (before ss ts) (nat_lt s t)

abbrev pub sides_agree : Side → Side → Bool
sides_agree Bid Bid = true
sides_agree Bid Offer = false
sides_agree Offer Bid = false
sides_agree Offer Offer = true

-- in one pair, an order of side s at price p that stands already leads one of side t at price q:
-- bids lead offers; on one side the better price leads, and an equal one too
abbrev pub leads : Side → ℕ → Side → ℕ → Bool
leads Bid p Bid q = nat_le q p
leads Bid p Offer q = true
leads Offer p Bid q = false
leads Offer p Offer q = nat_le p q

-- on this side, price p is better than q or equal to it
abbrev pub AsGood : Side → ℕ → ℕ → Type 0
AsGood Bid p q = q ≤ p
AsGood Offer p q = p ≤ q

-- the side as it is printed
abbrev pub side_name : Side → List ℕ
side_name Bid = codes "bid"
side_name Offer = codes "offer"
