-- Which bytes lay out which snapshot: the counted blocks, as the tables of layouts have them.
use Rattle.std.specs.Prelude.{◌≡◌, ℕ, zero, suc, ◌+◌, ◌<◌, List, [], ◌∷◌, ◌++◌, length, Ok, MatchBool}
use Rattle.fields.specs.Values.{Pair, Price}
use Rattle.fields.specs.declared.integers.Integer.{Integer}
use Rattle.book.specs.declared.order.Side.{Side}
use Rattle.book.specs.declared.order.Side.TheVariants.{Bid, Offer}
use Rattle.readers.specs.Values.{PairIs, LabelIs, PriceIs, AmountIs, IntegerIs}
use Rattle.venue.specs.Form as venue
use Rattle.snapshot.specs.declared.mark.Mark.{Mark}
use Rattle.snapshot.specs.declared.mark.Mark.TheVariants.{Lists, Puts}
use Rattle.snapshot.specs.Snapshot.{whole_order}

infixr 20 ◌⨾◌
infixr 20 ◌⧺◌
-- bytes that begin at an offset of the message lay out a value
abbrev pub Layout : Type 0 → Type 1
Layout A = ℕ → List ℕ → A → Type 0

-- a field by its own form
abbrev pub Field : {A : Type 0} → (List ℕ → A → Type 0) → Layout A
Field Is p bs v = Is bs v

-- the venue's tail of these terms
abbrev pub Tail : {T : Type 0} → venue.Form T → Layout T
Tail F p bs t = (length bs ≡ F.width) × (F.reads bs ≡ Ok t)

-- first bytes that lay out some a, and then those that lay out the value with it
abbrev pub ◌⨾◌ : {A B : Type 0} → Layout A → (A → Layout B) → Layout B
◌⨾◌ {A} L M p bs v = (a : A) × (b : List ℕ) × (c : List ℕ) × (bs ≡ b ++ c) × L p b a × M a (p + length b) c v

-- no bytes: the value is the offset here
abbrev pub Here : Layout ℕ
Here p bs v = (bs ≡ []) × (v ≡ p)

-- no bytes: the value is x
abbrev pub Done : {A : Type 0} → A → Layout A
Done x p bs v = (bs ≡ []) × (v ≡ x)

-- what one lists, and then what the other lists
abbrev pub ◌⧺◌ : {A : Type 0} → Layout (List A) → Layout (List A) → Layout (List A)
L ⧺ M = L ⨾ λ xs. M ⨾ λ ys. Done (xs ++ ys)

-- n blocks one after another
abbrev pub Rows : {A : Type 0} → Layout (List A) → ℕ → Layout (List A)
Rows L zero = Done []
Rows L (suc n) = L ⧺ Rows L n

module _ {T : Type 0} (F : venue.Form T) where
  abbrev pub Count : Layout (Integer 4)
  Count = Field (IntegerIs 4)

  -- amount, id and tail, the last two in the venue's order
  abbrev pub OrderLaid : Pair → Side → Price → Layout (List (Mark T))
  OrderLaid c s v = Field AmountIs ⨾ λ a p bs ms. MatchBool F.order_tail_first
      ((Tail F ⨾ λ t. Here ⨾ λ at. Field (LabelIs 15) ⨾ λ i. Done (Puts at (whole_order c s v a i t) ∷ [])) p bs ms)
      ((Here ⨾ λ at. Field (LabelIs 15) ⨾ λ i. Tail F ⨾ λ t. Done (Puts at (whole_order c s v a i t) ∷ [])) p bs ms)

  -- a price, the number of its orders, at least 1, and the orders
  abbrev pub LevelLaid : Pair → Side → Layout (List (Mark T))
  LevelLaid c s = Field PriceIs ⨾ λ v. Count ⨾ λ k p bs ms. (0 < k.value) × Rows (OrderLaid c s v) k.value p bs ms

  -- the number of prices, and the prices
  abbrev pub SideLaid : Pair → Side → Layout (List (Mark T))
  SideLaid c s = Count ⨾ λ k. Rows (LevelLaid c s) k.value

  -- a pair, its bids and its offers
  abbrev pub PairLaid : Layout (List (Mark T))
  PairLaid = Here ⨾ λ at. Field PairIs ⨾ λ c. Done (Lists at c ∷ []) ⧺ (SideLaid c Bid ⧺ SideLaid c Offer)

  -- the number of pairs, and the pairs
  abbrev pub PairsLaid : Layout (List (Mark T))
  PairsLaid = Count ⨾ λ k. Rows PairLaid k.value

  -- a letter, the number of bytes after that number, and the pairs
  pub record CountedLaid (m : List ℕ) (ms : List (Mark T)) : Type 0 where
    pub letter : ℕ
    pub size : List ℕ
    pub body : List ℕ
    pub count : Integer 6
    pub parts : m ≡ letter ∷ (size ++ body)
    pub counted : IntegerIs 6 size count
    pub agrees : count.value ≡ length body
    pub listed : PairsLaid 7 body ms
