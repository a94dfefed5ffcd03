-- What the walks over a snapshot find and do, mark by mark.
use Rattle.std.specs.Prelude.{◌≡◌, ℕ, ◌<◌, Bool, true, false, not, List, [], length, Some, None, Ok, Err, Option}
use Rattle.std.specs.List.{AllByRecursion}
use Rattle.fields.specs.Values.{Pair}
use Rattle.book.specs.declared.order.Order.{Order}
use Rattle.book.specs.Ladder.{same_pair, stands, placed, cleared}
use Rattle.venue.specs.Form as venue
use Rattle.snapshot.specs.declared.mark.Mark.{Mark}
use Rattle.snapshot.specs.declared.mark.Mark.TheVariants.{Lists, Puts}
use Rattle.snapshot.specs.Scanning.{Scan}
use Rattle.snapshot.specs.Snapshot.{snapshot_of}
use Rattle.snapshot.specs.Listing.{pairs_listed, orders_put}
use Rattle.snapshot.specs.Listing as snapshot
use Rattle.apply.specs.declared.tasks.Asked.{Asked}

-- some pair of the list is p
abbrev pub lists : List Pair → Pair → Bool
lists = snapshot.lists

-- what was asked last has the right answer
abbrev pub Right : List Pair → Option Asked → Type 0
Right ps None = Unit {0}
Right ps (Some a) = a.listed ≡ lists ps a.pair

-- the pair asked is not listed
abbrev pub unlisted : Option Asked → Bool
unlisted None = false
unlisted (Some a) = not a.listed

module _ {T : Type 0} where
  -- the order is of none of the pairs
  abbrev pub stays : List Pair → Option (Order T) → Bool
  stays ps None = false
  stays ps (Some o) = not (lists ps o.pair)

  -- every order put is of a pair listed
  abbrev pub OfListed : List (Mark T) → Type 0
  OfListed ms = AllByRecursion (λ (o : Order T). lists (pairs_listed ms) o.pair ≡ true) (orders_put ms)

  -- what a snapshot lists and puts, in layout order; nothing where the message is none
  abbrev pub marks_of : Scan (List (Mark T)) → List (Mark T)
  marks_of (Ok x) = x.0
  marks_of (Err f) = []

  abbrev pub marks : venue.Form T → List ℕ → List (Mark T)
  marks F m = marks_of (snapshot_of F m)

  -- the pairs that a snapshot lists
  abbrev pub listed_in : venue.Form T → List ℕ → List Pair
  listed_in F m = pairs_listed (marks F m)

  -- the mark lists this pair
  abbrev pub names : Pair → Mark T → Bool
  names p (Lists q c) = same_pair c p
  names p (Puts q o) = false

  -- one mark's part of clearing
  abbrev pub clears : Mark T → List (Order T) → List (Order T)
  clears (Lists p c) l = cleared c l
  clears (Puts p o) l = l

  -- one mark's part of placing: where its id is new in the pair and there is room, the order is placed
  abbrev pub Places : ℕ → Mark T → List (Order T) → List (Order T) → Type 0
  Places capacity (Lists p c) l l' = l' ≡ l
  Places capacity (Puts p o) l l' = stands o.pair o.id l ≡ false → length l < capacity → l' ≡ placed o l
