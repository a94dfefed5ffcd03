-- What the book's calls answer, and the ladder after them.
use Rattle.std.specs.Prelude.{◌≡◌, ℕ, ◌<◌, min, Bool, true, false, ◌⊎◌, List, [], length, Some, None, Ok, Err, Option, Result, slice_index_or}
use Rattle.std.specs.List.{AllByRecursion}
use Rattle.fields.specs.Values.{Pair, Amount}
use Rattle.book.specs.Ladder.{OrderId, stands, placed, amended, without}
use Rattle.book.specs.declared.order.Order.{Order}
use Rattle.book.specs.declared.ladder.BookFault.{BookFault}
use Rattle.book.specs.declared.ladder.BookFault.TheVariants.{NotStanding, Standing, Full}

-- the number of a refusal
abbrev pub number : BookFault → ℕ
number NotStanding = 31
number Standing = 32
number Full = 33

-- place: 32 if the pair has the id, then 33 if the ladder is as long as the capacity
abbrev pub PlaceRefused : {T : Type 0} → ℕ → List (Order T) → Order T → ℕ → Type 0
PlaceRefused capacity l o n =
    ((n ≡ 32) × (stands o.pair o.id l ≡ true)) ⊎ ((n ≡ 33) × (stands o.pair o.id l ≡ false) × (length l ≡ capacity))

abbrev pub Place : {T : Type 0} → ℕ → List (Order T) → Order T → Result (Unit {0}) BookFault → List (Order T) → Type 0
Place capacity l o (Ok _) l' = (stands o.pair o.id l ≡ false) × (length l < capacity) × (l' ≡ placed o l)
Place capacity l o (Err e) l' = PlaceRefused capacity l o (number e) × (l' ≡ l)

-- amend: 31 if no such order stands
abbrev pub Amend : {T : Type 0} → List (Order T) → Pair → OrderId → Amount → T → Result (Unit {0}) BookFault → List (Order T) → Type 0
Amend l p i a t (Ok _) l' = (stands p i l ≡ true) × (l' ≡ amended p i a t l)
Amend l p i a t (Err e) l' = (number e ≡ 31) × (stands p i l ≡ false) × (l' ≡ l)

-- remove: 31 if no such order stands
abbrev pub Remove : {T : Type 0} → List (Order T) → Pair → OrderId → Result (Unit {0}) BookFault → List (Order T) → Type 0
Remove l p i (Ok _) l' = (stands p i l ≡ true) × (l' ≡ without p i l)
Remove l p i (Err e) l' = (number e ≡ 31) × (stands p i l ≡ false) × (l' ≡ l)

-- a rank at which the test holds, or none where it holds of no order
abbrev pub Finds : {T : Type 0} → (Order T → Bool) → List (Order T) → Option ℕ → Type 0
Finds test l None = AllByRecursion (λ x. test x ≡ false) l
Finds {T} test l (Some k) = (k < length l) × ((d : Order T) → test (slice_index_or l k d) ≡ true)

-- a storage of s slots makes an empty book of capacity s, or 512 if s is more
abbrev pub Makes : {B T E : Type 0} → (B → ℕ) → (B → List (Order T)) → ℕ → Result B E → Type 0
Makes capacity ladder s (Ok b) = (capacity b ≡ min s 512) × (ladder b ≡ [])
Makes capacity ladder s (Err e) = Unit {0}
