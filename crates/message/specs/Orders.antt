-- The messages on one order, read field by field in layout order. Offsets are counted in the message.
use Rattle.std.specs.Prelude.{ℕ, ◌+◌, cond, not, ◌&&◌, List, is_some, None, Ok, Err, Option}
use Rattle.fields.specs.Values.{Pair, Price, Amount}
use Rattle.book.specs.Ladder.{OrderId}
use Rattle.book.specs.declared.order.Order.{Order}
use Rattle.readers.specs.Values.{pair_of, label_of, price_of, amount_of, side_of, optional_of}
use Rattle.venue.specs.Form as venue
use Rattle.message.specs.declared.fault.MessageFault.TheVariants.{Unpriced}
use Rattle.message.specs.declared.messages.Modify.{Modify}
use Rattle.message.specs.declared.messages.Cancel.{Cancel}
use Rattle.message.specs.Reading.{Reading, ◌▷◌, value_at, tail_at, sized}

-- the fields of the messages
abbrev pub pair_at : List ℕ → ℕ → Reading Pair
pair_at m = value_at m 7 pair_of

abbrev pub id_at : List ℕ → ℕ → Reading OrderId
id_at m = value_at m 15 (label_of 15)

abbrev pub price_at : List ℕ → ℕ → Reading Price
price_at m = value_at m 10 price_of

abbrev pub amount_at : List ℕ → ℕ → Reading Amount
amount_at m = value_at m 16 amount_of

-- a price or ten spaces, an id or fifteen spaces
abbrev pub any_price_at : List ℕ → ℕ → Reading (Option Price)
any_price_at m = value_at m 10 (optional_of 10 price_of)

abbrev pub any_id_at : List ℕ → ℕ → Reading (Option OrderId)
any_id_at m = value_at m 15 (optional_of 15 (label_of 15))

module _ {T : Type 0} (F : venue.Form T) where
  -- where a priced Modify has its replaced id
  abbrev pub replaced_offset : ℕ
  replaced_offset = cond F.modify_tail_first (49 + F.width) 49

  -- New: side, pair, id, price, amount, tail
  unfoldable pub new_of : List ℕ → Reading (Order T)
  new_of m = sized m (50 + F.width) (value_at m 1 side_of 1 ▷ λ side. pair_at m 2 ▷ λ pair. id_at m 9 ▷ λ id. price_at m 24 ▷ λ price.
      amount_at m 34 ▷ λ amount. tail_at F m 50 ▷ λ terms.
      Ok (record { pair = pair; side = side; id = id; price = price; amount = amount; terms = terms }))

  -- Modify without price: pair, id, amount, tail
  unfoldable pub amend_of : List ℕ → Reading (Modify T)
  amend_of m = sized m (39 + F.width) (pair_at m 1 ▷ λ pair. id_at m 8 ▷ λ id. amount_at m 23 ▷ λ amount. tail_at F m 39 ▷ λ terms.
      Ok (record { pair = pair; active = id; price = None; amount = amount; replaced = None; terms = terms }))

  -- the tail and the replaced id, or spaces, in the venue's order
  unfoldable pub end_of : List ℕ → Reading (T × Option OrderId)
  end_of m = cond F.modify_tail_first
      (tail_at F m 49 ▷ λ terms. any_id_at m (49 + F.width) ▷ λ replaced. Ok (terms, replaced))
      (any_id_at m 49 ▷ λ replaced. tail_at F m 64 ▷ λ terms. Ok (terms, replaced))

  -- Modify with price: pair, active id, price or spaces, amount, and those two; a replaced id without price is its 24
  unfoldable pub reprice_of : List ℕ → Reading (Modify T)
  reprice_of m = sized m (64 + F.width) (pair_at m 1 ▷ λ pair. id_at m 8 ▷ λ active. any_price_at m 23 ▷ λ price. amount_at m 33 ▷ λ amount.
      end_of m ▷ λ e. cond (is_some e.1 && not (is_some price)) (Err (Unpriced replaced_offset))
      (Ok (record { pair = pair; active = active; price = price; amount = amount; replaced = e.1; terms = e.0 })))

  -- Modify in the venue's form
  abbrev pub modify_of : List ℕ → Reading (Modify T)
  modify_of m = cond F.priced (reprice_of m) (amend_of m)

-- Cancel: pair, id
unfoldable pub cancel_of : List ℕ → Reading Cancel
cancel_of m = sized m 23 (pair_at m 1 ▷ λ pair. id_at m 8 ▷ λ id. Ok (record { pair = pair; id = id }))
