-- Which check of a message on one order fails first: the fields in layout order, each with its offset.
use Rattle.std.specs.Prelude.{◌≡◌, ℕ, ◌+◌, Bool, true, false, cond, List, [], ◌∷◌, ◌++◌, length, is_some, None, Ok, Err, Option, Result}
use Rattle.std.specs.List.{AllByRecursion}
use Rattle.book.specs.Ladder.{OrderId}
use Rattle.readers.specs.Values.{pair_of, label_of, price_of, amount_of, side_of, optional_of, PriceIs, LabelIs, OptionalIs}
use Rattle.venue.specs.Form as venue
use Rattle.message.specs.declared.fault.MessageFault.TheVariants.{NoLetter, WrongLength, BadField, Unpriced, Miscounted, Repeated, Book}
use Rattle.message.specs.Reading.{Reading, field}
use Rattle.message.specs.Orders.{replaced_offset}

-- a field's offset, and whether it is in form
pub record Check : Type 0 where
  pub at : ℕ
  pub passes : Bool

-- the field of w bytes at p
abbrev pub of_field : {A : Type 0} → List ℕ → ℕ → (List ℕ → Option A) → ℕ → Check
of_field m w f p = record { at = p; passes = is_some (f (field p w m)) }

abbrev pub by_venue : {T : Type 0} → ℕ → Result T ℕ → Check
by_venue p (Ok t) = record { at = p; passes = true }
by_venue p (Err k) = record { at = p + k; passes = false }

-- the tail at p; where it is not in form, its first bad field is the venue's to name
abbrev pub of_tail : {T : Type 0} → venue.Form T → List ℕ → ℕ → Check
of_tail F m p = by_venue p (F.reads (field p F.width m))

abbrev pub of_pair : List ℕ → ℕ → Check
of_pair m = of_field m 7 pair_of

abbrev pub of_id : List ℕ → ℕ → Check
of_id m = of_field m 15 (label_of 15)

abbrev pub of_amount : List ℕ → ℕ → Check
of_amount m = of_field m 16 amount_of

abbrev pub of_any_id : List ℕ → ℕ → Check
of_any_id m = of_field m 15 (optional_of 15 (label_of 15))

module _ {T : Type 0} (F : venue.Form T) (m : List ℕ) where
  abbrev pub new_checks : List Check
  new_checks = of_field m 1 side_of 1 ∷ of_pair m 2 ∷ of_id m 9 ∷ of_field m 10 price_of 24 ∷ of_amount m 34 ∷ of_tail F m 50 ∷ []

  abbrev pub amend_checks : List Check
  amend_checks = of_pair m 1 ∷ of_id m 8 ∷ of_amount m 23 ∷ of_tail F m 39 ∷ []

  abbrev pub end_checks : List Check
  end_checks = cond F.modify_tail_first (of_tail F m 49 ∷ of_any_id m (49 + F.width) ∷ []) (of_any_id m 49 ∷ of_tail F m 64 ∷ [])

  abbrev pub reprice_checks : List Check
  reprice_checks = of_pair m 1 ∷ of_id m 8 ∷ of_field m 10 (optional_of 10 price_of) 23 ∷ of_amount m 33 ∷ end_checks

abbrev pub cancel_checks : List ℕ → List Check
cancel_checks m = of_pair m 1 ∷ of_id m 8 ∷ []

-- the check at offset p fails, and all before it pass
pub record FirstBad (cs : List Check) (p : ℕ) : Type 0 where
  pub front : List Check
  pub bad : Check
  pub back : List Check
  pub split : cs ≡ front ++ (bad ∷ back)
  pub passed : AllByRecursion (λ c. c.passes ≡ true) front
  pub fails : bad.passes ≡ false
  pub offset : bad.at ≡ p

-- What a reader of messages of n bytes tells: the message of a row; or that the length is another; or the first field in
-- layout order that is not in form; or, where all are, what `Lacks` says of a replaced id without price.
abbrev pub Tells : {A : Type 0} → ℕ → List Check → (ℕ → Type 0) → (A → Type 0) → List ℕ → Reading A → Type 0
Tells n cs Lacks Row m (Ok v) = Row v
Tells n cs Lacks Row m (Err NoLetter) = ⊥
Tells n cs Lacks Row m (Err WrongLength) = length m ≡ n → ⊥
Tells n cs Lacks Row m (Err (BadField p)) = (length m ≡ n) × FirstBad cs p
Tells n cs Lacks Row m (Err (Unpriced p)) = (length m ≡ n) × Lacks p
Tells n cs Lacks Row m (Err (Miscounted p)) = ⊥
Tells n cs Lacks Row m (Err (Repeated p)) = ⊥
Tells n cs Lacks Row m (Err (Book r)) = ⊥

abbrev pub Never : ℕ → Type 0
Never p = ⊥

-- the price is blank, and the replaced id at p is filled
abbrev pub LacksPrice : {T : Type 0} → venue.Form T → List ℕ → ℕ → Type 0
LacksPrice F m p =
    (p ≡ replaced_offset F) × OptionalIs 10 PriceIs (field 23 10 m) None × ((i : OrderId) × LabelIs 15 (field p 15 m) i)
