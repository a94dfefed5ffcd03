-- What a venue fixes: the terms of its orders, and the tail, the bytes in which a message has them.
use Rattle.std.specs.Prelude.{◌≡◌, ℕ, ◌<◌, ◌≤◌, Bool, List, length, Ok, Err, Result}
use Rattle.std.specs.List.{AllByRecursion}
use Rattle.fields.specs.Bytes.{Printable}

-- A venue's form, for terms of the type T, with the law that every venue keeps.
pub record Form (T : Type 0) : Type 0 where
  -- the bytes of the tail
  pub width : ℕ
  -- Modify has a price and a replaced id
  pub priced : Bool
  -- in a Modify with a price the tail precedes the replaced id
  pub modify_tail_first : Bool
  -- in a snapshot's order the tail precedes the id
  pub order_tail_first : Bool
  -- the terms in a tail, or the offset in the tail of the first field that is not in form
  pub reads : List ℕ → Result T ℕ
  -- the tail of terms
  pub writes : T → List ℕ
  pub small : width ≤ 32
  pub refused_inside : (bs : List ℕ) (k : ℕ) → length bs ≡ width → reads bs ≡ Err k → k < width
  pub written_long : (t : T) → length (writes t) ≡ width
  pub written_printable : (t : T) → AllByRecursion Printable (writes t)
  pub reads_back : (t : T) → reads (writes t) ≡ Ok t
