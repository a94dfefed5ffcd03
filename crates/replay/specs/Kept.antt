-- The bytes of the packet that are held: all of them, or the first 49,152.
use Rattle.std.specs.Prelude.{ℕ, List, take}
use Rattle.replay.specs.declared.held.Held.{Held}

abbrev pub kept : Held → List ℕ
kept h = take h.count h.bytes
