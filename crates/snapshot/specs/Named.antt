-- The part of an order that names it and has its terms.
use Rattle.std.specs.Prelude.{ℕ, cond, List, Ok}
use Rattle.book.specs.Ladder.{OrderId}
use Rattle.readers.specs.Values.{label_of}
use Rattle.venue.specs.Form as venue
use Rattle.snapshot.specs.Scanning.{Scan, ◌▸◌, field_at, tail_then}

-- the id and the tail at p, in the venue's order, with the offset of the id
unfoldable pub named_at : {T : Type 0} → venue.Form T → List ℕ → ℕ → Scan (ℕ × OrderId × T)
named_at F m p = cond F.order_tail_first
    (tail_then F m p ▸ λ t q. field_at m 15 (label_of 15) q ▸ λ i e. Ok ((q, i, t), e))
    (field_at m 15 (label_of 15) p ▸ λ i q. tail_then F m q ▸ λ t e. Ok ((p, i, t), e))
