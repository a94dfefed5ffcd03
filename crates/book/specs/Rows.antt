-- Which order a plain row stands for.
use Rattle.std.specs.Prelude.{◌≡◌, ℕ, Bool, true, ◌&&◌, List, [], ◌∷◌, Some, None, Option}
use Rattle.std.proofs.lemmas.Bool.{and_parts}
use Rattle.fields.specs.Forms.{paired, labelled}
use Rattle.fields.specs.Ranges.{amounted, priced, PriceCount, AmountCount}
use Rattle.book.specs.Ladder.{in_order, apart}
use Rattle.book.specs.declared.order.Order.{Order}
use Rattle.book.specs.declared.row.Row.{Row}

-- the row is that of an order
pub record Formed {R : Type 0} (r : Row R) : Type 0 where
  pub pair : paired r.pair ≡ true
  pub id : labelled 15 r.id ≡ true
  pub price : PriceCount r.price
  pub amount : AmountCount r.amount

-- the same as a test
abbrev pub formed : {R : Type 0} → Row R → Bool
formed r = paired r.pair && (labelled 15 r.id && (priced r.price && amounted r.amount))

abbrev pub all_formed : {R : Type 0} → List (Row R) → Bool
all_formed [] = true
all_formed (r ∷ rs) = formed r && all_formed rs

pub form_of : {R : Type 0} (r : Row R) → formed r ≡ true → Formed r
form_of r e =
    let a = and_parts _ _ e in
    let b = and_parts _ _ a.1 in
    let c = and_parts _ _ b.1 in
    record { pair = a.0; id = b.0; price = c.0; amount = c.1 }

-- the order of a row; terms are given by their own row
abbrev pub whole_order : {R T : Type 0} → (R → T) → (r : Row R) → Formed r → Order T
whole_order given r f = record {
  pair = record { bytes = r.pair; kind = record {}; ok = f.pair };
  side = r.side;
  id = record { bytes = r.id; kind = record {}; ok = f.id };
  price = record { count = r.price; kind = record {}; ok = f.price };
  amount = record { count = r.amount; kind = record {}; ok = f.amount };
  terms = given r.terms;
}

abbrev pub first_formed : {R : Type 0} (r : Row R) (rs : List (Row R)) → all_formed (r ∷ rs) ≡ true → formed r ≡ true
first_formed r rs f = (and_parts (formed r) (all_formed rs) f).0

abbrev pub rest_formed : {R : Type 0} (r : Row R) (rs : List (Row R)) → all_formed (r ∷ rs) ≡ true → all_formed rs ≡ true
rest_formed r rs f = (and_parts (formed r) (all_formed rs) f).1

abbrev pub orders : {R T : Type 0} → (R → T) → (rs : List (Row R)) → all_formed rs ≡ true → List (Order T)
orders given [] f = []
orders given (r ∷ rs) f = whole_order given r (form_of r (first_formed r rs f)) ∷ orders given rs (rest_formed r rs f)

-- the rows are those of a ladder: each is the row of an order, the orders are in order, and no id stands twice in a pair
pub record OfLadder {R : Type 0} (rs : List (Row R)) : Type 0 where
  pub formed : all_formed rs ≡ true
  pub sorted : in_order (orders (λ t. t) rs formed) ≡ true
  pub distinct : apart (orders (λ t. t) rs formed) ≡ true

-- the row of an order
abbrev pub order_row : {R T : Type 0} → (T → R) → Order T → Row R
order_row row o = record { pair = o.pair.bytes; side = o.side; id = o.id.bytes; price = o.price.count; amount = o.amount.count; terms = row o.terms }

-- the row with another amount and other terms
abbrev pub changed_row : {R : Type 0} → ℕ → R → Row R → Row R
changed_row a z r = record { pair = r.pair; side = r.side; id = r.id; price = r.price; amount = a; terms = z }

-- an order is made again from its row, and none exactly where the row is of no order
abbrev pub Remakes : {R T : Type 0} → (R → T) → Row R → Option (Order T) → Type 0
Remakes given r None = Formed r → ⊥
Remakes given r (Some o) = (f : Formed r) × (o ≡ whole_order given r f)
