-- The laws of ladders that callers of a book need.
use Rattle.std.specs.Prelude.{◌≡◌, ℕ, ◌+◌, ◌≤◌, true, false, cond, ◌&&◌, List, [], ◌∷◌, ◌++◌, length, is_some, Some, None, Decides}
use Rattle.std.specs.List.{AllByRecursion}
use Rattle.std.specs.Str.{bytes_eq}
use Rattle.std.specs.Option.{option_map}
use Rattle.fields.specs.Values.{Pair, Amount}
use Rattle.book.specs.Ladder.{OrderId, Ladder, ahead, Ahead, in_order, stands, named, same_pair, at_level, lookup, at_rank, Placed, placed, placed_all, reset, amended, without, cleared}
use Rattle.book.specs.Calls.{Finds}
use Rattle.book.specs.declared.order.Order.{Order}

pub record LadderLaws (T : Type 0) : Type 0 where
  -- the test of who stays in front says what its words say
  pub ahead_says : (x o : Order T) → Decides (ahead x o) (Ahead x o)
  -- placing as a function and as a relation agree
  pub placed_is : (o : Order T) (l : List (Order T)) → in_order l ≡ true → Placed o l (placed o l)
  pub placed_only : (o : Order T) (l l' : List (Order T)) → Placed o l l' → l' ≡ placed o l
  -- the place is the only one at which the ladder stays in order with no order of the same pair, side and price behind
  pub one_place : (o : Order T) (front back : List (Order T)) → in_order (front ++ (o ∷ back)) ≡ true → AllByRecursion (λ x. at_level o.pair o.side o.price x ≡ false) back → front ++ (o ∷ back) ≡ placed o (front ++ back)
  -- placing a ladder's own orders, in order, into an empty ladder gives that ladder
  pub placed_own : (l : List (Order T)) → Ladder l → placed_all [] l ≡ l
  -- each change keeps a ladder a ladder
  pub placed_ladder : (o : Order T) (l : List (Order T)) → stands o.pair o.id l ≡ false → Ladder l → Ladder (placed o l)
  pub amended_ladder : (p : Pair) (i : OrderId) (a : Amount) (t : T) (l : List (Order T)) → Ladder l → Ladder (amended p i a t l)
  pub without_ladder : (p : Pair) (i : OrderId) (l : List (Order T)) → Ladder l → Ladder (without p i l)
  pub cleared_ladder : (p : Pair) (l : List (Order T)) → Ladder l → Ladder (cleared p l)
  -- how long a ladder is after each change
  pub placed_length : (o : Order T) (l : List (Order T)) → length (placed o l) ≡ length l + 1
  pub amended_length : (p : Pair) (i : OrderId) (a : Amount) (t : T) (l : List (Order T)) → length (amended p i a t l) ≡ length l
  pub without_length : (p : Pair) (i : OrderId) (l : List (Order T)) → Ladder l → stands p i l ≡ true → length (without p i l) + 1 ≡ length l
  pub cleared_length : (p : Pair) (l : List (Order T)) → length (cleared p l) ≤ length l
  -- amending keeps each rank
  pub amended_rank : (p : Pair) (i : OrderId) (a : Amount) (t : T) (l : List (Order T)) (k : ℕ) → at_rank (amended p i a t l) k ≡ option_map (λ x. cond (named p i x) (reset a t x) x) (at_rank l k)
  -- look-up by pair and id, and after each change
  pub lookup_stands : (p : Pair) (i : OrderId) (l : List (Order T)) → stands p i l ≡ is_some (lookup p i l)
  pub lookup_rank : (p : Pair) (i : OrderId) (l : List (Order T)) (k : ℕ) → Ladder l → Finds (named p i) l (Some k) → lookup p i l ≡ at_rank l k
  pub lookup_placed : (q : Pair) (j : OrderId) (o : Order T) (l : List (Order T)) → stands o.pair o.id l ≡ false → lookup q j (placed o l) ≡ cond (named q j o) (Some o) (lookup q j l)
  pub lookup_amended : (q : Pair) (j : OrderId) (p : Pair) (i : OrderId) (a : Amount) (t : T) (l : List (Order T)) → lookup q j (amended p i a t l) ≡ option_map (λ x. cond (named p i x) (reset a t x) x) (lookup q j l)
  pub lookup_without : (q : Pair) (j : OrderId) (p : Pair) (i : OrderId) (l : List (Order T)) → lookup q j (without p i l) ≡ cond (same_pair q p && bytes_eq j.bytes i.bytes) None (lookup q j l)
  pub lookup_cleared : (q : Pair) (j : OrderId) (p : Pair) (l : List (Order T)) → lookup q j (cleared p l) ≡ cond (same_pair q p) None (lookup q j l)
