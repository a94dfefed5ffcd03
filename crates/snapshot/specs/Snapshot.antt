-- What a snapshot lists, in layout order, each pair and order with its offset.
use Rattle.std.specs.Prelude.{ℕ, ◌-◌, cond, List, [], ◌∷◌, length, Ok, Err, ◌==◌}
use Rattle.fields.specs.Values.{Pair, Price, Amount}
use Rattle.fields.specs.declared.integers.Integer.{Integer}
use Rattle.book.specs.Ladder.{OrderId}
use Rattle.book.specs.declared.order.Side.{Side}
use Rattle.book.specs.declared.order.Side.TheVariants.{Bid, Offer}
use Rattle.book.specs.declared.order.Order.{Order}
use Rattle.readers.specs.Values.{pair_of, label_of, price_of, amount_of, integer_of}
use Rattle.venue.specs.Form as venue
use Rattle.message.specs.declared.fault.MessageFault.TheVariants.{Miscounted}
use Rattle.snapshot.specs.declared.mark.Mark.{Mark}
use Rattle.snapshot.specs.declared.mark.Mark.TheVariants.{Lists, Puts}
use Rattle.snapshot.specs.Scanning.{Scan, ◌▸◌, ◌⨟◌, field_at, tail_then, times}

-- the order that is listed below a pair, a side and a price
abbrev pub whole_order : {T : Type 0} → Pair → Side → Price → Amount → OrderId → T → Order T
whole_order c s v a i t = record { pair = c; side = s; id = i; price = v; amount = a; terms = t }

module _ {T : Type 0} (F : venue.Form T) (m : List ℕ) where
  abbrev pub count_read : ℕ → Scan (Integer 4)
  count_read = field_at m 4 (integer_of 4)

  -- amount, id and tail, the last two in the venue's order
  unfoldable pub order_at : Pair → Side → Price → ℕ → Scan (List (Mark T))
  order_at c s v p = field_at m 16 amount_of p ▸ λ a q. cond F.order_tail_first
      (tail_then F m q ▸ λ t r. field_at m 15 (label_of 15) r ▸ λ i e. Ok (Puts r (whole_order c s v a i t) ∷ [], e))
      (field_at m 15 (label_of 15) q ▸ λ i r. tail_then F m r ▸ λ t e. Ok (Puts q (whole_order c s v a i t) ∷ [], e))

  -- a price, the number of its orders, at least 1, and the orders
  unfoldable pub level_at : Pair → Side → ℕ → Scan (List (Mark T))
  level_at c s p = field_at m 10 price_of p ▸ λ v q. count_read q ▸ λ k r. cond (k.value == 0) (Err (Miscounted q)) (times (order_at c s v) k.value r)

  -- the number of prices, and the prices
  unfoldable pub side_at : Pair → Side → ℕ → Scan (List (Mark T))
  side_at c s p = count_read p ▸ λ k q. times (level_at c s) k.value q

  -- a pair, its bids and its offers
  unfoldable pub pair_at : ℕ → Scan (List (Mark T))
  pair_at p = field_at m 7 pair_of p ▸ λ c q. Ok (Lists p c ∷ [], q) ⨟ λ u. side_at c Bid u ⨟ λ r. side_at c Offer r

  -- the number of pairs, and the pairs
  unfoldable pub pairs_from : ℕ → Scan (List (Mark T))
  pairs_from p = count_read p ▸ λ k q. times pair_at k.value q

  -- behind the letter the number of bytes after that number, and the pairs up to the message's end
  unfoldable pub snapshot_of : Scan (List (Mark T))
  snapshot_of = field_at m 6 (integer_of 6) 1 ▸ λ k p. cond (k.value == length m - p)
      (pairs_from p ▸ λ ms e. cond (e == length m) (Ok (ms, e)) (Err (Miscounted e)))
      (Err (Miscounted 1))
