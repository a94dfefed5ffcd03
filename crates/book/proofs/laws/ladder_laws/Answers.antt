use Rattle.book.specs.Orderly.{ahead_says}
use Rattle.book.specs.Ladders.{placed_is, placed_only, one_place, placed_all_own, placed_in_order, placed_apart, amended_in_order, amended_apart, without_in_order, without_apart}
use Rattle.book.specs.Lookups.{cleared_in_order, cleared_apart, placed_length, amended_length, without_length, cleared_length, amended_rank, lookup_stands, lookup_rank, lookup_placed, lookup_amended, lookup_without, lookup_cleared}
use Rattle.std.proofs.Common.{◌∙◌}
use Rattle.book.proofs.laws.ladder_laws.Goals as goal

pub returns : goal.returns
returns g c = record {
  ahead_says = ahead_says;
  placed_is = placed_is;
  placed_only = placed_only;
  one_place = one_place;
  placed_own = λ l h. placed_all_own l h.sorted;
  placed_ladder = λ o l n h. record { sorted = placed_in_order o l h.sorted; distinct = placed_apart o l h.distinct n };
  amended_ladder = λ p i a t l h. record { sorted = amended_in_order a t p i l ∙ h.sorted; distinct = amended_apart a t p i l ∙ h.distinct };
  without_ladder = λ p i l h. record { sorted = without_in_order p i l h.sorted; distinct = without_apart p i l h.distinct };
  cleared_ladder = λ p l h. record { sorted = cleared_in_order p l h.sorted; distinct = cleared_apart p l h.distinct };
  placed_length = placed_length;
  amended_length = amended_length;
  without_length = λ p i l h s. without_length p i l h.distinct s;
  cleared_length = cleared_length;
  amended_rank = amended_rank;
  lookup_stands = lookup_stands;
  lookup_rank = λ p i l k h f. lookup_rank p i l k h.distinct f.0 f.1;
  lookup_placed = lookup_placed;
  lookup_amended = lookup_amended;
  lookup_without = lookup_without;
  lookup_cleared = lookup_cleared;
}
