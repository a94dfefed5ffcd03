-- Look-ups in the bytes of a snapshot: what is asked of them.
use Rattle.std.specs.Prelude.{◌≡◌, ℕ, zero, suc, ◌+◌, ◌≤◌, Bool, true, false, cond, ◌&&◌, ◌||◌, List, Ok, Err, nat_lt}
use Rattle.std.specs.declared.ops.ControlFlow.{ControlFlow}
use Rattle.std.specs.declared.ops.ControlFlow.TheVariants.{Continue, Break}
use Rattle.std.specs.List.{list_any}
use Rattle.std.specs.Str.{bytes_eq}
use Rattle.fields.specs.Values.{Pair}
use Rattle.fields.specs.declared.integers.Integer.{Integer}
use Rattle.book.specs.declared.order.Side.TheVariants.{Bid, Offer}
use Rattle.readers.specs.Values.{integer_of}
use Rattle.venue.specs.Form as venue
use Rattle.message.specs.Reading.{Reading, field, value_at}
use Rattle.snapshot.specs.declared.mark.Mark.{Mark}
use Rattle.snapshot.specs.declared.mark.Mark.TheVariants.{Lists, Puts}
use Rattle.snapshot.specs.Scanning.{Scan, ◌⨟◌}
use Rattle.snapshot.specs.Snapshot.{side_at}

module _ {T : Type 0} where
  -- an order of this id, that stands before an offset
  abbrev pub puts_id : ℕ → List ℕ → Mark T → Bool
  puts_id upto id (Lists q c) = false
  puts_id upto id (Puts q o) = nat_lt q upto && bytes_eq o.id.bytes id

  -- this pair, that stands before an offset
  abbrev pub lists_pair : ℕ → List ℕ → Mark T → Bool
  lists_pair upto pair (Lists q c) = nat_lt q upto && bytes_eq c.bytes pair
  lists_pair upto pair (Puts q o) = false

  -- an order of this id is put before an offset
  abbrev pub met : ℕ → List ℕ → List (Mark T) → Bool
  met upto id ms = list_any (puts_id upto id) ms

  -- this pair is listed before an offset
  abbrev pub listed : ℕ → List ℕ → List (Mark T) → Bool
  listed upto pair ms = list_any (lists_pair upto pair) ms

  -- what is said of marks that end at e: the id was met; it was not, and they end past the offset; it was not, and where they end
  abbrev pub Says : ℕ → List ℕ → List (Mark T) → ℕ → ControlFlow Bool ℕ → Type 0
  Says upto id ms e (Break true) = met upto id ms ≡ true
  Says upto id ms e (Break false) = (met upto id ms ≡ false) × (upto ≤ e)
  Says upto id ms e (Continue q) = (met upto id ms ≡ false) × (q ≡ e)

  -- Said of what a scan lists, where it ends without fault.
  -- the answer is so
  pub record Skims (upto : ℕ) (id : List ℕ) (x : Scan (List (Mark T))) (r : ControlFlow Bool ℕ) : Type 0 where
    pub says : (ms : List (Mark T)) (e : ℕ) → x ≡ Ok (ms, e) → Says upto id ms e r

  -- it ends here
  pub record Ends (x : Scan (List (Mark T))) (r : ℕ) : Type 0 where
    pub end : (ms : List (Mark T)) (e : ℕ) → x ≡ Ok (ms, e) → r ≡ e

  -- whether the pair is listed before an offset
  pub record ListsPair (upto : ℕ) (pair : List ℕ) (x : Scan (List (Mark T))) (r : Bool) : Type 0 where
    pub found : (ms : List (Mark T)) (e : ℕ) → x ≡ Ok (ms, e) → r ≡ listed upto pair ms

  -- whether the id is put before an offset
  pub record PutsId (upto : ℕ) (id : List ℕ) (x : Scan (List (Mark T))) (r : Bool) : Type 0 where
    pub found : (ms : List (Mark T)) (e : ℕ) → x ≡ Ok (ms, e) → r ≡ met upto id ms

-- the offset of the id in an order, and the bytes of an order
abbrev pub id_offset : {T : Type 0} → venue.Form T → ℕ
id_offset F = 16 + cond F.order_tail_first F.width 0

abbrev pub order_width : {T : Type 0} → venue.Form T → ℕ
order_width F = 31 + F.width

abbrev pub count_or0 : Reading (Integer 4) → ℕ
count_or0 (Ok k) = k.value
count_or0 (Err e) = 0

-- the count at p, or 0 where there is none
abbrev pub count_in : List ℕ → ℕ → ℕ
count_in m p = count_or0 (value_at m 4 (integer_of 4) p)

-- one of n ids, each some bytes after the last, that stands before an offset and is this one
unfoldable pub strided : List ℕ → ℕ → List ℕ → ℕ → ℕ → ℕ → Bool
strided m upto id step zero at = false
strided m upto id step (suc n) at = (nat_lt at upto && bytes_eq (field at 15 m) id) || strided m upto id step n (at + step)

-- the bids and offers of a pair
abbrev pub sides_at : {T : Type 0} → venue.Form T → List ℕ → Pair → ℕ → Scan (List (Mark T))
sides_at F m c p = side_at F m c Bid p ⨟ λ r. side_at F m c Offer r
