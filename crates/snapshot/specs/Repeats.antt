-- Repeats: a pair that a snapshot lists twice, or an id twice in a pair.
use Rattle.std.specs.Prelude.{◌≡◌, ℕ, Bool, true, false, cond, ◌&&◌, ◌||◌, List, [], ◌∷◌, ◌++◌, Some, None, Option}
use Rattle.std.specs.Str.{bytes_eq}
use Rattle.book.specs.Ladder.{same_pair}
use Rattle.snapshot.specs.declared.mark.Mark.{Mark}
use Rattle.snapshot.specs.declared.mark.Mark.TheVariants.{Lists, Puts}

-- the offset of a mark
abbrev pub place_of : {T : Type 0} → Mark T → ℕ
place_of (Lists p c) = p
place_of (Puts p o) = p

-- both list the same pair, or both put the same id of the same pair
unfoldable pub alike : {T : Type 0} → Mark T → Mark T → Bool
alike (Lists p c) (Lists q d) = same_pair c d
alike (Lists p c) (Puts q o) = false
alike (Puts p o) (Lists q d) = false
alike (Puts p o) (Puts q x) = same_pair o.pair x.pair && bytes_eq o.id.bytes x.id.bytes

-- y repeats one of these
abbrev pub repeats : {T : Type 0} → List (Mark T) → Mark T → Bool
repeats [] y = false
repeats (x ∷ xs) y = alike x y || repeats xs y

-- the offset of the first mark that repeats one before it; `seen` stands before all of them
abbrev pub first_repeat : {T : Type 0} → List (Mark T) → List (Mark T) → Option ℕ
first_repeat seen [] = None
first_repeat seen (x ∷ xs) = cond (repeats seen x) (Some (place_of x)) (first_repeat (seen ++ (x ∷ [])) xs)

-- the same in words. No mark repeats one before it
pub record Distinct {T : Type 0} (ms : List (Mark T)) : Type 0 where
  pub apart : (front back : List (Mark T)) (x : Mark T) → ms ≡ front ++ (x ∷ back) → repeats front x ≡ false

-- the mark at offset p repeats one before it, and none before that one does
pub record RepeatAt {T : Type 0} (ms : List (Mark T)) (p : ℕ) : Type 0 where
  pub front : List (Mark T)
  pub mark : Mark T
  pub back : List (Mark T)
  pub split : ms ≡ front ++ (mark ∷ back)
  pub at_offset : place_of mark ≡ p
  pub repeated : repeats front mark ≡ true
  pub first : Distinct front
