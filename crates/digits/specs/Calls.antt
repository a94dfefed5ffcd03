-- What the calls answer.
use Rattle.std.specs.Prelude.{◌≡◌, ℕ, ◌+◌, ◌<◌, ◌≤◌, List, ◌++◌, length, take, drop, Some, None, Ok, Err, Option, Result}
use Rattle.digits.specs.declared.room.NoRoom.{NoRoom}

-- a text is written into a buffer at an offset and no other byte changes, or NoRoom exactly where it has no room there
abbrev pub Puts : List ℕ → List ℕ → ℕ → Result (Unit {0}) NoRoom → List ℕ → Type 0
Puts text before at (Ok _) after = (at + length text ≤ length before) × (after ≡ take at before ++ (text ++ drop (at + length text) before))
Puts text before at (Err _) after = (length before < at + length text) × (after ≡ before)

-- the only number that is such, and none exactly where there is none
abbrev pub Only : (ℕ → Type 0) → Option ℕ → Type 0
Only Is (Some n) = Is n × ((m : ℕ) → Is m → m ≡ n)
Only Is None = (m : ℕ) → Is m → ⊥
