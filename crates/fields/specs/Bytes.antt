-- The kinds of bytes that fields are made of, besides those of numbers.
use Rattle.std.specs.Prelude.{ℕ, ◌≤◌}

-- A to Z
abbrev pub Letter : ℕ → Type 0
Letter c = (65 ≤ c) × (c ≤ 90)

-- from the space, 0x20, to the tilde, 0x7E
abbrev pub Printable : ℕ → Type 0
Printable c = (32 ≤ c) × (c ≤ 126)
