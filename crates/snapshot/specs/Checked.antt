-- A snapshot checked whole, repeats included.
use Rattle.std.specs.Prelude.{◌≡◌, ℕ, ◌+◌, ◌≤◌, Bool, cond, List, [], length, Some, None, Ok, Err, Option, Result}
use Rattle.fields.specs.Values.{Pair}
use Rattle.book.specs.declared.order.Order.{Order}
use Rattle.venue.specs.Form as venue
use Rattle.message.specs.declared.fault.MessageFault.{MessageFault}
use Rattle.message.specs.declared.fault.MessageFault.TheVariants.{Repeated}
use Rattle.snapshot.specs.declared.mark.Mark.{Mark}
use Rattle.snapshot.specs.declared.mark.Mark.TheVariants.{Lists, Puts}
use Rattle.snapshot.specs.declared.checks.Counts.{Counts}
use Rattle.snapshot.specs.declared.checks.Seen.{Seen}
use Rattle.snapshot.specs.Scanning.{Scan}
use Rattle.snapshot.specs.Snapshot.{snapshot_of}
use Rattle.snapshot.specs.Repeats.{first_repeat}
use Rattle.snapshot.specs.Listing.{pairs_listed, orders_put}
use Rattle.snapshot.specs.Skims.{met, listed, sides_at}

-- refused at the first repeat
abbrev pub told : Option ℕ → Counts → Result Counts MessageFault
told (Some p) n = Err (Repeated p)
told None n = Ok n

-- a fault of the layout first, then the first repeat; else how many pairs are listed, and how many orders are put
unfoldable pub checked : {T : Type 0} → Scan (List (Mark T)) → Result Counts MessageFault
checked (Err f) = Err f
checked (Ok x) = told (first_repeat [] x.0) (record { pairs = length (pairs_listed x.0); orders = length (orders_put x.0) })

-- What is noted at a mark.
-- the first repeat stays; where there is none yet, it is the mark at p if that one repeats
abbrev pub onward : Option ℕ → ℕ → Bool → Option ℕ
onward (Some q) p b = Some q
onward None p b = cond b (Some p) None

-- n and k more, where the message has that many bytes
abbrev pub Adds : List ℕ → ℕ → ℕ → ℕ → Type 0
Adds m n k r = n + k ≤ length m → r ≡ n + k

module _ {T : Type 0} (F : venue.Form T) (m : List ℕ) where
  -- the first repeat at a pair: one that is listed before it
  abbrev pub PairNoted : Option ℕ → ℕ → List ℕ → Option ℕ → Type 0
  PairNoted first p pair r = (ms : List (Mark T)) (e : ℕ) → snapshot_of F m ≡ Ok (ms, e) → r ≡ onward first p (listed p pair ms)

  -- the first repeat at an order: an id that is put before it by the pair whose bids begin at `from`
  abbrev pub IdNoted : Option ℕ → ℕ → ℕ → List ℕ → Option ℕ → Type 0
  IdNoted first from p id r = (c : Pair) (ms : List (Mark T)) (e : ℕ) → sides_at F m c from ≡ Ok (ms, e) → r ≡ onward first p (met p id ms)

  pub record PairSeen (s : Seen) (p : ℕ) (c : Pair) (t : Seen) : Type 0 where
    pub first : PairNoted s.first p c.bytes t.first
    pub start : Adds m p 7 t.start
    pub pairs : Adds m s.counts.pairs 1 t.counts.pairs
    pub orders : t.counts.orders ≡ s.counts.orders

  pub record OrderSeen (s : Seen) (p : ℕ) (o : Order T) (t : Seen) : Type 0 where
    pub first : IdNoted s.first s.start p o.id.bytes t.first
    pub start : t.start ≡ s.start
    pub pairs : t.counts.pairs ≡ s.counts.pairs
    pub orders : Adds m s.counts.orders 1 t.counts.orders

  abbrev pub MarkSeen : Seen → Mark T → Seen → Type 0
  MarkSeen s (Lists p c) t = PairSeen s p c t
  MarkSeen s (Puts p o) t = OrderSeen s p o t
