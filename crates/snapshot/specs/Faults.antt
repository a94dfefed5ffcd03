-- Where the reading of a snapshot stops: at the first check that fails, in layout order, with the fault of that check.
use Rattle.std.specs.Prelude.{◌≡◌, ℕ, zero, suc, ◌+◌, ◌<◌, ◌≤◌, Bool, ◌⊎◌, List, [], ◌∷◌, ◌++◌, length, take, drop, Err, MatchBool, ◌≢◌}
use Rattle.fields.specs.Values.{Pair, Price}
use Rattle.fields.specs.declared.integers.Integer.{Integer}
use Rattle.book.specs.declared.order.Side.{Side}
use Rattle.book.specs.declared.order.Side.TheVariants.{Bid, Offer}
use Rattle.readers.specs.Values.{PairIs, LabelIs, PriceIs, AmountIs, IntegerIs}
use Rattle.venue.specs.Form as venue
use Rattle.message.specs.declared.fault.MessageFault.{MessageFault}
use Rattle.message.specs.declared.fault.MessageFault.TheVariants.{BadField, Miscounted}
use Rattle.snapshot.specs.declared.mark.Mark.{Mark}
use Rattle.snapshot.specs.declared.mark.Mark.TheVariants.{Lists, Puts}
use Rattle.snapshot.specs.Snapshot.{whole_order}
use Rattle.snapshot.specs.Laid.{Layout, Field, Tail, ◌⨾◌, Here, Done, Rows, PairsLaid}

infixr 20 ◌⟫◌
infixr 20 ◌⧻◌
-- 25 or 23 at some offset
abbrev pub Located : MessageFault → Type 0
Located f = (q : ℕ) × ((f ≡ Miscounted q) ⊎ (f ≡ BadField q))

-- the bytes from an offset up to the message's end stop with a fault
abbrev pub Stop : Type 1
Stop = ℕ → List ℕ → MessageFault → Type 0

-- a part of a snapshot: which bytes lay it out, and which bytes stop inside it
pub record Part (A : Type 0) : Type 1 where
  pub laid : Layout A
  pub stops : Stop

-- fewer than w bytes are left: 25 at the field's offset
abbrev pub Short : ℕ → Stop
Short w p bs f = (length bs < w) × (f ≡ Miscounted p)

-- w bytes by their form: 23 at their offset where they are the field of no value
abbrev pub in_form : {A : Type 0} → ℕ → (List ℕ → A → Type 0) → Part A
in_form {A} w Is = record {
  laid = Field Is;
  stops = λ p bs f. Short w p bs f ⊎ ((w ≤ length bs) × ((v : A) → Is (take w bs) v → ⊥) × (f ≡ BadField p));
}

-- the venue's tail: 23 at the first of its fields that is not in form
abbrev pub in_tail : {T : Type 0} → venue.Form T → Part T
in_tail F = record {
  laid = Tail F;
  stops = λ p bs f. Short F.width p bs f
      ⊎ ((F.width ≤ length bs) × (k : ℕ) × (F.reads (take F.width bs) ≡ Err k) × (f ≡ BadField (p + k)));
}

-- no bytes, so nothing stops
abbrev pub no_bytes : {A : Type 0} → Layout A → Part A
no_bytes L = record { laid = L; stops = λ p bs f. ⊥ }

-- first bytes that lay out some a, and then a stop
abbrev pub Past : {A : Type 0} → Layout A → (A → Stop) → Stop
Past {A} L S p bs f = (a : A) × (b : List ℕ) × (c : List ℕ) × (bs ≡ b ++ c) × L p b a × S a (p + length b) c f

-- one part and then the next: the first stops, or the first is laid out and the next stops
abbrev pub ◌⟫◌ : {A B : Type 0} → Part A → (A → Part B) → Part B
P ⟫ Q = record { laid = P.laid ⨾ λ a. (Q a).laid; stops = λ p bs f. P.stops p bs f ⊎ Past P.laid (λ a. (Q a).stops) p bs f }

abbrev pub ◌⧻◌ : {A : Type 0} → Part (List A) → Part (List A) → Part (List A)
P ⧻ Q = P ⟫ λ xs. Q ⟫ λ ys. no_bytes (Done (xs ++ ys))

-- n blocks one after another: the first of them that stops
abbrev pub RowsStop : {A : Type 0} → Part (List A) → ℕ → Stop
RowsStop P zero = λ p bs f. ⊥
RowsStop P (suc n) = (P ⧻ record { laid = Rows P.laid n; stops = RowsStop P n }).stops

abbrev pub rows : {A : Type 0} → Part (List A) → ℕ → Part (List A)
rows P n = record { laid = Rows P.laid n; stops = RowsStop P n }

-- one part or the other
abbrev pub choice : {A : Type 0} → Bool → Part A → Part A → Part A
choice b P Q = record { laid = λ p bs v. MatchBool b (P.laid p bs v) (Q.laid p bs v); stops = λ p bs f. MatchBool b (P.stops p bs f) (Q.stops p bs f) }

abbrev pub count : Part (Integer 4)
count = in_form 4 (IntegerIs 4)

-- a number of at least 1, and then what it counts: 25 at the number's offset where it is 0
abbrev pub some : {A : Type 0} → (ℕ → Part A) → Part A
some Q = record {
  laid = count.laid ⨾ λ k p bs v. (0 < k.value) × (Q k.value).laid p bs v;
  stops = λ p bs f. count.stops p bs f
      ⊎ Past count.laid (λ k q c g. ((k.value ≡ 0) × (g ≡ Miscounted p)) ⊎ ((0 < k.value) × (Q k.value).stops q c g)) p bs f;
}

-- the parts of a snapshot, as its layouts have them
module _ {T : Type 0} (F : venue.Form T) where
  abbrev pub order_part : Pair → Side → Price → Part (List (Mark T))
  order_part c s v = in_form 16 AmountIs ⟫ λ a. choice F.order_tail_first
      (in_tail F ⟫ λ t. no_bytes Here ⟫ λ at. in_form 15 (LabelIs 15) ⟫ λ i. no_bytes (Done (Puts at (whole_order c s v a i t) ∷ [])))
      (no_bytes Here ⟫ λ at. in_form 15 (LabelIs 15) ⟫ λ i. in_tail F ⟫ λ t. no_bytes (Done (Puts at (whole_order c s v a i t) ∷ [])))

  abbrev pub level_part : Pair → Side → Part (List (Mark T))
  level_part c s = in_form 10 PriceIs ⟫ λ v. some (λ k. rows (order_part c s v) k)

  abbrev pub side_part : Pair → Side → Part (List (Mark T))
  side_part c s = count ⟫ λ k. rows (level_part c s) k.value

  abbrev pub pair_part : Part (List (Mark T))
  pair_part = no_bytes Here ⟫ λ at. in_form 7 PairIs ⟫ λ c. no_bytes (Done (Lists at c ∷ [])) ⧻ (side_part c Bid ⧻ side_part c Offer)

  abbrev pub pairs_part : Part (List (Mark T))
  pairs_part = count ⟫ λ k. rows pair_part k.value

-- a letter, the number k in six bytes, and the body
pub record Sized (m : List ℕ) (k : ℕ) (body : List ℕ) : Type 0 where
  pub letter : ℕ
  pub size : List ℕ
  pub count : Integer 6
  pub parts : m ≡ letter ∷ (size ++ body)
  pub counted : IntegerIs 6 size count
  pub value : count.value ≡ k

-- where a counted snapshot stops
module _ {T : Type 0} (F : venue.Form T) (m : List ℕ) where
  pub data CountedStops : MessageFault → Type 0 where
    -- at the number of bytes, by its form
    at_size : (f : MessageFault) → (in_form 6 (IntegerIs 6)).stops 1 (drop 1 m) f → CountedStops f
    -- there too, where it is another number than that of the bytes behind it
    at_number : (k : ℕ) (body : List ℕ) → Sized m k body → (k ≢ length body) → CountedStops (Miscounted 1)
    -- inside the pairs
    at_pairs : (body : List ℕ) (f : MessageFault) → Sized m (length body) body → (pairs_part F).stops 7 body f → CountedStops f
    -- behind the pairs, where bytes are left over
    at_end : (b c : List ℕ) (ms : List (Mark T)) → Sized m (length (b ++ c)) (b ++ c) → PairsLaid F 7 b ms → 0 < length c → CountedStops (Miscounted (7 + length b))
