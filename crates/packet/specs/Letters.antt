-- The letters that packets begin with.
use Rattle.std.specs.Prelude.{ℕ}

pub data Letter : Type 0 where
  accepted : Letter
  rejected : Letter
  sequenced : Letter
  heartbeat : Letter
  explained : Letter
  directory : Letter

-- A, J, S, H, E and R
abbrev pub code : Letter → ℕ
code accepted = 65
code rejected = 74
code sequenced = 83
code heartbeat = 72
code explained = 69
code directory = 82
