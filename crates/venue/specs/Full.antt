-- The Full ECN: the tail is the minimum quantity at 0 and the lot size at 16.
use Rattle.std.specs.Prelude.{◌≡◌, ℕ, ◌<◌, true, false, List, ◌++◌, length, take, drop, Some, None, Ok, Err, Option, Result}
use Rattle.std.proofs.Common.{ap, ap₂, ◌∙◌, arith, length-append, take_at, drop_at, take_all}
use Rattle.std.specs.List.{AllByRecursion}
use Rattle.std.proofs.ByRecursion.{All-append}
use Rattle.fields.specs.Bytes.{Printable}
use Rattle.fields.specs.Fields.{quantity_text}
use Rattle.fields.specs.Values.{Quantity}
use Rattle.fields.proofs.Codecs.{quantity_codec}
use Rattle.readers.specs.Values.{quantity_of}
use Rattle.readers.specs.Lawful.{quantity_law}
use Rattle.venue.specs.Form.{Form}
use Rattle.venue.specs.declared.terms.Limits.{Limits}

-- the quantity in the sixteen bytes at an offset
abbrev pub quantity_from : ℕ → List ℕ → Option Quantity
quantity_from at bs = quantity_of (take 16 (drop at bs))

-- the first field that is not in form is refused
abbrev pub limits : Option Quantity → Option Quantity → Result Limits ℕ
limits None lot = Err 0
limits (Some min) None = Err 16
limits (Some min) (Some lot) = Ok (record { min = min; lot = lot })

abbrev pub full_reads : List ℕ → Result Limits ℕ
full_reads bs = limits (quantity_from 0 bs) (quantity_from 16 bs)

abbrev pub full_writes : Limits → List ℕ
full_writes t = quantity_text t.min.count ++ quantity_text t.lot.count

limits_inside : (min lot : Option Quantity) (k : ℕ) → limits min lot ≡ Err k → k < 32
limits_inside None lot k e = let z : 0 ≡ k = cc in omega arith
limits_inside (Some min) None k e = let z : 16 ≡ k = cc in omega arith
limits_inside (Some min) (Some lot) k e = cc

pub full_inside : (bs : List ℕ) (k : ℕ) → length bs ≡ 32 → full_reads bs ≡ Err k → k < 32
full_inside bs k l e = limits_inside (quantity_from 0 bs) (quantity_from 16 bs) k e

pub text_long : (q : Quantity) → length (quantity_text q.count) ≡ 16
text_long q = quantity_codec.long _ _ (quantity_codec.back q)

text_read : (q : Quantity) → quantity_of (quantity_text q.count) ≡ Some q
text_read q = quantity_law.complete _ q (quantity_codec.back q)

pub both_long : (a b : List ℕ) → length a ≡ 16 → length b ≡ 16 → length (a ++ b) ≡ 32
both_long a b p q = omega (arith, length-append a b)

pub full_long : (t : Limits) → length (full_writes t) ≡ 32
full_long t = both_long _ _ (text_long t.min) (text_long t.lot)

pub full_printable : (t : Limits) → AllByRecursion Printable (full_writes t)
full_printable t =
    All-append Printable _ _
    (quantity_codec.printable _ _ (quantity_codec.back t.min))
    (quantity_codec.printable _ _ (quantity_codec.back t.lot))

-- the two fields of sixteen bytes each
parts : (a b : List ℕ) → length a ≡ 16 → length b ≡ 16 → (take 16 (drop 0 (a ++ b)) ≡ a) × (take 16 (drop 16 (a ++ b)) ≡ b)
parts a b p q = (take_at a b 16 p, ap (take 16) (drop_at a b 16 p) ∙ take_all 16 b (omega arith))

pub full_back : (t : Limits) → full_reads (full_writes t) ≡ Ok t
full_back t =
    let h = parts _ _ (text_long t.min) (text_long t.lot) in
    ap₂ limits (ap quantity_of h.0 ∙ text_read t.min) (ap quantity_of h.1 ∙ text_read t.lot)

abbrev pub full_form : Form Limits
full_form = record {
  width = 32;
  priced = true;
  modify_tail_first = false;
  order_tail_first = true;
  reads = full_reads;
  writes = full_writes;
  small = omega arith;
  refused_inside = full_inside;
  written_long = full_long;
  written_printable = full_printable;
  reads_back = full_back;
}
