-- The laws of all fields together.
use Rattle.readers.specs.Laws.{ReaderLaws}
use Rattle.readers.specs.Blanks.{pair_filled, label_filled, time_filled, price_filled, amount_filled, integer_filled, side_filled}
use Rattle.readers.specs.Lawful.{pair_law, label_law, time_law, price_law, amount_law, quantity_law, integer_law, side_law}

pub reader_laws : ReaderLaws
reader_laws = record {
  pair = pair_law;
  label = label_law;
  time = time_law;
  price = price_law;
  amount = amount_law;
  quantity = quantity_law;
  integer = integer_law;
  side = side_law;
  pair_filled = pair_filled;
  label_filled = label_filled;
  time_filled = time_filled;
  price_filled = price_filled;
  amount_filled = amount_filled;
  integer_filled = integer_filled;
  side_filled = side_filled;
}
