-- The kinds of bytes that numbers are made of.
use Rattle.std.specs.Prelude.{◌≡◌, ℕ, ◌≤◌}

abbrev pub Digit : ℕ → Type 0
Digit c = (48 ≤ c) × (c ≤ 57)

abbrev pub Space : ℕ → Type 0
Space c = c ≡ 32
