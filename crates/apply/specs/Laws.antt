-- What a snapshot does, said of the orders that stand before and after.
use Rattle.std.specs.Prelude.{◌≡◌, ℕ, ◌<◌, ◌≤◌, true, false, List, length, Ok, Err}
use Rattle.fields.specs.Values.{Pair}
use Rattle.book.specs.declared.order.Order.{Order}
use Rattle.book.specs.declared.ladder.BookFault.TheVariants.{Full}
use Rattle.book.specs.Ladder.{OrderId, Ladder, lookup}
use Rattle.venue.specs.Form as venue
use Rattle.orders.specs.Applied.{After, refusal}
use Rattle.snapshot.specs.declared.mark.Mark.{Mark}
use Rattle.snapshot.specs.Snapshot.{snapshot_of}
use Rattle.snapshot.specs.Repeats.{Distinct}
use Rattle.snapshot.specs.Listing.{pairs_listed, orders_put, room_needed, replaced}
use Rattle.apply.specs.Marks.{lists, OfListed}
use Rattle.apply.specs.Meaning.{snapshot_after}

module _ {T : Type 0} (l : List (Order T)) (ms : List (Mark T)) where
  -- of the pairs listed the orders listed stand, and no other; of the other pairs the orders that stood
  pub record SnapshotDone (l' : List (Order T)) : Type 0 where
    pub listed : (q : Pair) (j : OrderId) → lists (pairs_listed ms) q ≡ true → lookup q j l' ≡ lookup q j (orders_put ms)
    pub others : (q : Pair) (j : OrderId) → lists (pairs_listed ms) q ≡ false → lookup q j l' ≡ lookup q j l
    pub long : length l' ≡ room_needed ms l
    pub is_ladder : Ladder l'

  abbrev pub SnapshotSays : ℕ → After T → Type 0
  SnapshotSays capacity (Ok l') = (room_needed ms l ≤ capacity) × SnapshotDone l'
  SnapshotSays capacity (Err e) = (e ≡ refusal Full 0) × (capacity < room_needed ms l)

pub record SnapshotLaws (T : Type 0) : Type 0 where
  -- every order that a snapshot puts is of a pair that it lists
  pub of_listed : (F : venue.Form T) (m : List ℕ) (ms : List (Mark T)) (e : ℕ) → snapshot_of F m ≡ Ok (ms, e) → OfListed ms
  -- a snapshot without repeats does what its words say, in a ladder of any length, and in a book of any capacity
  pub replaced_says : (l : List (Order T)) (ms : List (Mark T)) → Ladder l → Distinct ms → OfListed ms → SnapshotDone l ms (replaced ms l)
  pub snapshot_says : (capacity : ℕ) (l : List (Order T)) (ms : List (Mark T)) → Ladder l → Distinct ms → OfListed ms → SnapshotSays l ms capacity (snapshot_after capacity l ms)
