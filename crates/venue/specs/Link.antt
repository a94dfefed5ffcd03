-- Link Direct: the tail is the maker.
use Rattle.std.specs.Prelude.{◌≡◌, ℕ, ◌<◌, true, false, List, length, Some, None, Ok, Err, Option, Result}
use Rattle.std.proofs.Common.{ap, arith}
use Rattle.fields.specs.Values.{Label}
use Rattle.fields.proofs.Codecs.{label_codec}
use Rattle.readers.specs.Values.{label_of}
use Rattle.readers.specs.Lawful.{label_law}
use Rattle.venue.specs.Form.{Form}
use Rattle.venue.specs.declared.terms.MadeBy.{MadeBy}

abbrev pub made_by : Option (Label 16) → Result MadeBy ℕ
made_by None = Err 0
made_by (Some m) = Ok (record { maker = m })

abbrev pub link_reads : List ℕ → Result MadeBy ℕ
link_reads bs = made_by (label_of 16 bs)

abbrev pub link_writes : MadeBy → List ℕ
link_writes t = t.maker.bytes

made_by_inside : (m : Option (Label 16)) (k : ℕ) → made_by m ≡ Err k → k < 16
made_by_inside None k e = let z : 0 ≡ k = cc in omega arith
made_by_inside (Some m) k e = cc

pub link_inside : (bs : List ℕ) (k : ℕ) → length bs ≡ 16 → link_reads bs ≡ Err k → k < 16
link_inside bs k l e = made_by_inside (label_of 16 bs) k e

pub link_back : (t : MadeBy) → link_reads (link_writes t) ≡ Ok t
link_back t = ap made_by ((label_law 16).complete _ t.maker ((label_codec 16).back t.maker))

abbrev pub link_form : Form MadeBy
link_form = record {
  width = 16;
  priced = true;
  modify_tail_first = true;
  order_tail_first = false;
  reads = link_reads;
  writes = link_writes;
  small = omega arith;
  refused_inside = link_inside;
  written_long = λ t. (label_codec 16).long _ _ ((label_codec 16).back t.maker);
  written_printable = λ t. (label_codec 16).printable _ _ ((label_codec 16).back t.maker);
  reads_back = link_back;
}
