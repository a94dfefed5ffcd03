-- The Basic ECN: orders without terms, an empty tail.
use Rattle.std.specs.Prelude.{◌≡◌, ℕ, ◌<◌, false, List, [], length, Ok, Err, Result, refl}
use Rattle.std.proofs.Common.{arith}
use Rattle.venue.specs.Form.{Form}
use Rattle.venue.specs.declared.terms.NoTerms.{NoTerms}

abbrev pub basic_reads : List ℕ → Result NoTerms ℕ
basic_reads bs = Ok (record {})

pub basic_inside : (bs : List ℕ) (k : ℕ) → length bs ≡ 0 → basic_reads bs ≡ Err k → k < 0
basic_inside bs k h e = cc

abbrev pub basic_form : Form NoTerms
basic_form = record {
  width = 0;
  priced = false;
  modify_tail_first = false;
  order_tail_first = false;
  reads = basic_reads;
  writes = λ _. [];
  small = omega arith;
  refused_inside = basic_inside;
  written_long = λ t. refl;
  written_printable = λ t. tt;
  reads_back = λ t. refl;
}
