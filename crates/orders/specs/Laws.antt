-- What the messages on one order do, said of the orders that stand before and after.
use Rattle.std.specs.Prelude.{◌≡◌, ℕ, ◌+◌, ◌<◌, ◌≤◌, ◌⊎◌, List, ◌∷◌, ◌++◌, length, Some, None, Ok, Err, Option, ◌≢◌}
use Rattle.fields.specs.Values.{Pair, Price}
use Rattle.book.specs.declared.order.Order.{Order}
use Rattle.book.specs.declared.ladder.BookFault.TheVariants.{NotStanding, Standing, Full}
use Rattle.book.specs.Ladder.{OrderId, Ladder, lookup, at_rank, reset, Placed}
use Rattle.venue.specs.Form as venue
use Rattle.message.specs.declared.messages.Cancel.{Cancel}
use Rattle.message.specs.declared.messages.Modify.{Modify}
use Rattle.orders.specs.Applied.{After, refusal, new_after, cancel_after, target, target_at, order_of_active, modify_after}

-- another pair, or another id
abbrev pub Other : Pair → OrderId → Pair → OrderId → Type 0
Other q j p i = q ≡ p → j ≢ i

-- some order of this pair and id stands
abbrev pub StandsIn : {T : Type 0} → List (Order T) → Pair → OrderId → Type 0
StandsIn {T} l p i = (o : Order T) × (lookup p i l ≡ Some o)

-- the order leaves the ladder, and the others keep their order
pub record Removed {T : Type 0} (o : Order T) (l l' : List (Order T)) : Type 0 where
  pub front : List (Order T)
  pub back : List (Order T)
  pub was : l ≡ front ++ (o ∷ back)
  pub is : l' ≡ front ++ back

module _ {T : Type 0} (l : List (Order T)) where
  -- New, accepted: the order stands as sent, behind all of its pair and side at a better or an equal price; others stand as before
  pub record NewDone (capacity : ℕ) (o : Order T) (l' : List (Order T)) : Type 0 where
    pub free : lookup o.pair o.id l ≡ None
    pub room : length l < capacity
    pub put : Placed o l l'
    pub stands_then : lookup o.pair o.id l' ≡ Some o
    pub others : (q : Pair) (j : OrderId) → Other q j o.pair o.id → lookup q j l' ≡ lookup q j l
    pub long : length l' ≡ length l + 1
    pub is_ladder : Ladder l'

  abbrev pub NewSays : ℕ → Order T → After T → Type 0
  NewSays capacity o (Ok l') = NewDone capacity o l'
  NewSays capacity o (Err e) =
      ((e ≡ refusal Standing 9) × StandsIn l o.pair o.id)
      ⊎ ((e ≡ refusal Full 0) × (lookup o.pair o.id l ≡ None) × (length l ≡ capacity))

  -- Cancel, accepted: the order stood, and no longer does; others stand as before
  pub record CancelDone (x : Cancel) (l' : List (Order T)) : Type 0 where
    pub old : Order T
    pub stood : lookup x.pair x.id l ≡ Some old
    pub removed : Removed old l l'
    pub gone : lookup x.pair x.id l' ≡ None
    pub others : (q : Pair) (j : OrderId) → Other q j x.pair x.id → lookup q j l' ≡ lookup q j l
    pub long : length l' + 1 ≡ length l
    pub is_ladder : Ladder l'

  abbrev pub CancelSays : Cancel → After T → Type 0
  CancelSays x (Ok l') = CancelDone x l'
  CancelSays x (Err e) = (e ≡ refusal NotStanding 8) × (lookup x.pair x.id l ≡ None)

  module _ (x : Modify T) where
    -- the active id is the target, or does not stand
    abbrev pub Free : Type 0
    Free = (x.active ≡ target x) ⊎ (lookup x.pair x.active l ≡ None)

    -- Modify without price: only the target's amount and terms change, and each order keeps its rank
    pub record AmendDone (old : Order T) (l' : List (Order T)) : Type 0 where
      pub stands_then : lookup x.pair (target x) l' ≡ Some (reset x.amount x.terms old)
      pub others : (q : Pair) (j : OrderId) → Other q j x.pair (target x) → lookup q j l' ≡ lookup q j l
      pub rank : (k : ℕ) → at_rank l k ≡ Some old → at_rank l' k ≡ Some (reset x.amount x.terms old)
      pub ranks : (k : ℕ) (y : Order T) → at_rank l k ≡ Some y → Other y.pair y.id x.pair (target x) → at_rank l' k ≡ Some y

    -- Modify with price: the target leaves, and the active id stands on its side with the message's price, amount and terms,
    -- behind all of its pair and side at a better or an equal price
    pub record RepriceDone (price : Price) (old : Order T) (l' : List (Order T)) : Type 0 where
      pub between : List (Order T)
      pub removed : Removed old l between
      pub put : Placed (order_of_active x price old.side) between l'
      pub stands_then : lookup x.pair x.active l' ≡ Some (order_of_active x price old.side)
      pub gone : (x.active ≢ target x) → lookup x.pair (target x) l' ≡ None
      pub others : (q : Pair) (j : OrderId) → Other q j x.pair (target x) → Other q j x.pair x.active → lookup q j l' ≡ lookup q j l

    abbrev pub ChangeDone : Option Price → Order T → List (Order T) → Type 0
    ChangeDone None old l' = AmendDone old l'
    ChangeDone (Some price) old l' = RepriceDone price old l'

    pub record ModifyDone (l' : List (Order T)) : Type 0 where
      pub old : Order T
      pub stood : lookup x.pair (target x) l ≡ Some old
      pub free : Free
      pub done : ChangeDone x.price old l'
      pub long : length l' ≡ length l
      pub is_ladder : Ladder l'

  abbrev pub ModifySays : venue.Form T → Modify T → After T → Type 0
  ModifySays F x (Ok l') = ModifyDone x l'
  ModifySays F x (Err e) =
      ((e ≡ refusal NotStanding (target_at F x.replaced)) × (lookup x.pair (target x) l ≡ None))
      ⊎ ((e ≡ refusal Standing 8) × StandsIn l x.pair (target x) × (x.active ≢ target x) × StandsIn l x.pair x.active)

-- the messages on one order do what their words say, and the words leave no choice
pub record OrderLaws (T : Type 0) : Type 0 where
  pub new_says : (capacity : ℕ) (l : List (Order T)) (o : Order T) → Ladder l → length l ≤ capacity → NewSays l capacity o (new_after capacity l o)
  pub new_only : (capacity : ℕ) (l : List (Order T)) (o : Order T) (a : After T) → NewSays l capacity o a → a ≡ new_after capacity l o
  pub cancel_says : (l : List (Order T)) (x : Cancel) → Ladder l → CancelSays l x (cancel_after l x)
  pub cancel_only : (l : List (Order T)) (x : Cancel) → Ladder l → (a : After T) → CancelSays l x a → a ≡ cancel_after l x
  pub modify_says : (F : venue.Form T) (l : List (Order T)) (x : Modify T) → Ladder l → ModifySays l F x (modify_after F l x)
  pub modify_only : (F : venue.Form T) (l : List (Order T)) (x : Modify T) → Ladder l → (a : After T) → ModifySays l F x a → a ≡ modify_after F l x
