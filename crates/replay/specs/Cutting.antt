-- How a stream is cut into packets: each ends with its first LF.
use Rattle.std.specs.Prelude.{◌≡◌, ℕ, ◌+◌, ◌-◌, ◌<◌, cond, List, [], ◌++◌, length, take, Some, None, Option, ◌≢◌, nat_le, slice_index, slice_index_or}
use Rattle.replay.specs.Kept.{kept}
use Rattle.replay.specs.declared.cutter.Cutter.{Cutter}
use Rattle.replay.specs.declared.cutter.Cut.{Cut}

-- the bytes taken so far
abbrev pub taken : Cutter → ℕ
taken s = s.before + s.held.count

-- the bytes taken before the pending packet
abbrev pub stood : Cutter → ℕ
stood s = cond s.ended (taken s) s.before

-- the pending packet: how many bytes it has, and the first 49,152 of them
abbrev pub count : Cutter → ℕ
count s = cond s.ended 0 s.held.count

abbrev pub pending : Cutter → List ℕ
pending s = cond s.ended [] (kept s.held)

-- a packet of n bytes with its LF, unless it is too long
abbrev pub whole : ℕ → List ℕ → Option (List ℕ)
whole n bs = cond (nat_le n 49152) (Some bs) None

-- the packet that the last take ended, without its LF
abbrev pub last : Cutter → Option (List ℕ)
last s = cond s.ended (whole s.held.count (take (s.held.count - 1) (kept s.held))) None

-- no LF among the first n bytes
abbrev pub NoLF : List ℕ → ℕ → Type 0
NoLF bs n = (k : ℕ) → k < n → slice_index bs k ≢ 10

-- a piece without LF is taken whole
pub record TakesAll (s : Cutter) (piece : List ℕ) (t : Cutter) : Type 0 where
  pub none : NoLF piece (length piece)
  pub place : stood t ≡ stood s
  pub counts : count t ≡ count s + length piece
  pub holds : pending t ≡ take 49152 (pending s ++ piece)
  pub nothing : last t ≡ None

-- a piece is taken up to its first LF, at i, which ends a packet
pub record TakesLine (s : Cutter) (piece : List ℕ) (r : Cut) (t : Cutter) : Type 0 where
  pub i : ℕ
  pub within : i < length piece
  pub lf : slice_index_or piece i 0 ≡ 10
  pub first : NoLF piece i
  pub takes : r.taken ≡ i + 1
  pub place : r.place ≡ stood s
  pub after : stood t ≡ stood s + count s + (i + 1)
  pub fresh : count t ≡ 0
  pub packet : last t ≡ whole (count s + (i + 1)) (pending s ++ take i piece)

-- a take tells the packet that it ended, or none
abbrev pub Takes : Cutter → List ℕ → Option Cut → Cutter → Type 0
Takes s piece None t = TakesAll s piece t
Takes s piece (Some r) t = TakesLine s piece r t
