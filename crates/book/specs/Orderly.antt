-- That the ladder's order is total and transitive.
use Rattle.std.specs.Prelude.{◌≡◌, ℕ, Bool, true, false, cond, ◌&&◌, ◌⊎◌, List, [], ◌∷◌, Decides, ◌==◌}
use Rattle.std.proofs.Math.Path.{refl, ap}
use Rattle.std.proofs.Common.{sym, ap₂, subst, ◌∙◌, arith}
use Rattle.std.proofs.Math.Logic.{inl, inr, ⊎_elim}
use Rattle.std.specs.Str.{bytes_eq}
use Rattle.std.proofs.lemmas.Slice.Eq.{bytes_eq-Decides}
use Rattle.std.proofs.lemmas.Bool.{leb-true, leb-false, le-leb, true≢false, false≢true, both_ways, and_parts}
use Rattle.std.proofs.lemmas.Bool.Decides.{nat_tests}
use Rattle.fields.specs.Values.{Pair, Price}
use Rattle.fields.proofs.Sames.{pair_same, label_same}
use Rattle.book.specs.Sides.{before, leads, sides_agree, AsGood}
use Rattle.book.specs.Ladder.{OrderId, ahead, Ahead, named, at_level}
use Rattle.book.specs.declared.order.Side.{Side}
use Rattle.book.specs.declared.order.Side.TheVariants.{Bid, Offer}
use Rattle.book.specs.declared.order.Order.{Order}

pub split : (b : Bool) → (b ≡ true) ⊎ (b ≡ false)
split true = inl refl
split false = inr refl

before_total : (s t : List ℕ) → before s t ≡ false → bytes_eq s t ≡ false → before t s ≡ true
before_total [] [] b e = absurd (true≢false e)
before_total [] (y ∷ t) b e = absurd (true≢false b)
before_total (x ∷ s) [] b e = refl
before_total (x ∷ s) (y ∷ t) b e = let ih = before_total s t in grind (arith, nat_tests)

before_trans : (s t u : List ℕ) → before s t ≡ true → before t u ≡ true → before s u ≡ true
before_trans [] [] u b d = absurd (false≢true b)
before_trans [] (y ∷ t) [] b d = absurd (false≢true d)
before_trans [] (y ∷ t) (z ∷ u) b d = refl
before_trans (x ∷ s) [] u b d = absurd (false≢true b)
before_trans (x ∷ s) (y ∷ t) [] b d = absurd (false≢true d)
before_trans (x ∷ s) (y ∷ t) (z ∷ u) b d = let ih = before_trans s t u in grind (arith, nat_tests)

pub keeps_total : (s : Side) (a : ℕ) (t : Side) (b : ℕ) → leads s a t b ≡ false → leads t b s a ≡ true
keeps_total Bid a Bid b h = le-leb a b (omega (arith, leb-false b a h))
keeps_total Bid a Offer b h = absurd (true≢false h)
keeps_total Offer a Bid b h = refl
keeps_total Offer a Offer b h = le-leb b a (omega (arith, leb-false a b h))

pub keeps_trans : (s : Side) (a : ℕ) (t : Side) (b : ℕ) (u : Side) (c : ℕ) → leads s a t b ≡ true → leads t b u c ≡ true → leads s a u c ≡ true
keeps_trans Bid a Bid b Bid c h k = le-leb c a (omega (arith, leb-true b a h, leb-true c b k))
keeps_trans Bid a Bid b Offer c h k = refl
keeps_trans Bid a Offer b Bid c h k = absurd (false≢true k)
keeps_trans Bid a Offer b Offer c h k = refl
keeps_trans Offer a Bid b u c h k = absurd (false≢true h)
keeps_trans Offer a Offer b Bid c h k = absurd (false≢true k)
keeps_trans Offer a Offer b Offer c h k = le-leb a c (omega (arith, leb-true a b h, leb-true b c k))

leads_both : (s : Side) (a : ℕ) (t : Side) (b : ℕ) → leads s a t b ≡ true → leads t b s a ≡ true → (sides_agree t s && b == a) ≡ true
leads_both Bid a Bid b h k = grind (arith, nat_tests)
leads_both Bid a Offer b h k = absurd (false≢true k)
leads_both Offer a Bid b h k = absurd (false≢true h)
leads_both Offer a Offer b h k = grind (arith, nat_tests)

sides_same : (s t : Side) → sides_agree s t ≡ true → s ≡ t
sides_same Bid Bid h = refl
sides_same Bid Offer h = absurd (false≢true h)
sides_same Offer Bid h = absurd (false≢true h)
sides_same Offer Offer h = refl

leads_itself : (s : Side) (p : ℕ) → leads s p s p ≡ true
leads_itself Bid p = le-leb p p (omega arith)
leads_itself Offer p = le-leb p p (omega arith)

pub bytes_same : (s t : List ℕ) → bytes_eq s t ≡ true → s ≡ t
bytes_same s t h = (bytes_eq-Decides s t).0 h

pub same_bytes : (s t : List ℕ) → s ≡ t → bytes_eq s t ≡ true
same_bytes s t h = (bytes_eq-Decides s t).1 h

pub bytes_sym : (s t : List ℕ) → bytes_eq s t ≡ bytes_eq t s
bytes_sym s t = ⊎_elim
    (λ h. h ∙ sym (same_bytes t s (sym (bytes_same s t h))))
    (λ h. h ∙ ⊎_elim (λ k. absurd (both_ways _ h (same_bytes s t (sym (bytes_same t s k))))) sym (split (bytes_eq t s)))
    (split (bytes_eq s t))

before_irrefl : (s : List ℕ) → before s s ≡ false
before_irrefl [] = refl
before_irrefl (x ∷ s) = let ih = before_irrefl s in grind (arith, nat_tests)

clash : (p q r : List ℕ) → before p q ≡ true → before q r ≡ true → bytes_eq p r ≡ false
clash p q r h k = ⊎_elim (λ e. absurd (both_ways _ (before_irrefl p) (before_trans p q p h (subst (λ z. before q z ≡ true) (sym (bytes_same p r e)) k)))) (λ e. e) (split (bytes_eq p r))

left_same : (p q r : List ℕ) → bytes_eq p q ≡ true → (bytes_eq p r ≡ bytes_eq q r) × (before p r ≡ before q r)
left_same p q r h = let e = bytes_same p q h in (ap (λ z. bytes_eq z r) e, ap (λ z. before z r) e)

right_same : (p q r : List ℕ) → bytes_eq q r ≡ true → (bytes_eq p r ≡ bytes_eq p q) × (before p r ≡ before p q)
right_same p q r h = let e = sym (bytes_same q r h) in (ap (bytes_eq p) e, ap (before p) e)

leads_says : (s : Side) (p : ℕ) (t : Side) (q : ℕ) → Decides (leads s p t q) (((s ≡ Bid) × (t ≡ Offer)) ⊎ ((s ≡ t) × AsGood t p q))
leads_says Bid p Bid q = (λ h. inr (refl, leb-true q p h), ⊎_elim (λ e. let n = e.1 in let z : true ≡ false = cc in absurd (true≢false z)) (λ e. le-leb q p e.1))
leads_says Bid p Offer q = (λ h. inl (refl, refl), λ e. refl)
leads_says Offer p Bid q = (λ h. absurd (false≢true h), ⊎_elim (λ e. let n = e.0 in let z : true ≡ false = cc in absurd (true≢false z)) (λ e. let n = e.0 in let z : true ≡ false = cc in absurd (true≢false z)))
leads_says Offer p Offer q = (λ h. inr (refl, leb-true p q h), ⊎_elim (λ e. let n = e.0 in let z : true ≡ false = cc in absurd (true≢false z)) (λ e. le-leb p q e.1))

module _ {T : Type 0} where
  pub ahead_says : (x o : Order T) → Decides (ahead x o) (Ahead x o)
  unfolding ahead
  ahead_says x o =
      let side = leads_says x.side x.price.count o.side o.price.count in
      let one : (x.pair ≡ o.pair) → bytes_eq x.pair.bytes o.pair.bytes ≡ true = λ e. same_bytes _ _ (ap (λ z. z.bytes) e) in
      let first : before x.pair.bytes o.pair.bytes ≡ true → bytes_eq x.pair.bytes o.pair.bytes ≡ false =
      λ b. ⊎_elim (λ e. absurd (both_ways _ (before_irrefl x.pair.bytes) (subst (λ z. before x.pair.bytes z ≡ true) (sym (bytes_same _ _ e)) b))) (λ n. n) (split _) in (
        (elim (bytes_eq x.pair.bytes o.pair.bytes) as (λ b. bytes_eq x.pair.bytes o.pair.bytes ≡ b → cond b (leads x.side x.price.count o.side o.price.count) (before x.pair.bytes o.pair.bytes) ≡ true → Ahead x o) [
          | true ↦ λ e h. inr (pair_same x.pair o.pair (bytes_same _ _ e), side.0 h)
          | false ↦ λ e h. inl h
        ]) refl,
        ⊎_elim
            (λ b. ap (λ t. cond t (leads x.side x.price.count o.side o.price.count) (before x.pair.bytes o.pair.bytes)) (first b) ∙ b)
            (λ e. ap (λ t. cond t (leads x.side x.price.count o.side o.price.count) (before x.pair.bytes o.pair.bytes)) (one e.0) ∙ side.1 e.1),
      )

  pub ahead_total : (x y : Order T) → ahead x y ≡ false → ahead y x ≡ true
  unfolding ahead
  ahead_total x y h =
      let k = keeps_total x.side x.price.count y.side y.price.count in
      let b = before_total x.pair.bytes y.pair.bytes in
      let s = bytes_sym x.pair.bytes y.pair.bytes in
      grind (arith, nat_tests)

  pub ahead_trans : (x y z : Order T) → ahead x y ≡ true → ahead y z ≡ true → ahead x z ≡ true
  unfolding ahead
  ahead_trans x y z h k =
      let t = keeps_trans x.side x.price.count y.side y.price.count z.side z.price.count in
      let b = before_trans x.pair.bytes y.pair.bytes z.pair.bytes in
      let c = clash x.pair.bytes y.pair.bytes z.pair.bytes in
      let l = left_same x.pair.bytes y.pair.bytes z.pair.bytes in
      let r = right_same x.pair.bytes y.pair.bytes z.pair.bytes in
      grind (arith, nat_tests)

  pub named_sym : (x y : Order T) → named x.pair x.id y ≡ named y.pair y.id x
  unfolding named
  named_sym x y = cc (bytes_sym x.pair.bytes y.pair.bytes, bytes_sym x.id.bytes y.id.bytes)

  -- the one of a pair and id has that pair and id
  pub named_one : (p : Pair) (i : OrderId) (x : Order T) → named p i x ≡ true → (x.pair ≡ p) × (x.id ≡ i)
  unfolding named
  named_one p i x n =
      let b = and_parts _ _ n in
      (pair_same x.pair p (bytes_same _ _ b.0), label_same 15 x.id i (bytes_same _ _ b.1))

  pub named_both : (p : Pair) (i : OrderId) (x y : Order T) → named p i x ≡ true → named p i y ≡ true → named y.pair y.id x ≡ true
  named_both p i x y n m = let e = named_one p i y m in ap₂ (λ q j. named q j x) e.0 e.1 ∙ n

  -- two orders, each ahead of the other, are of one pair, side and price
  pub level_both : (x y : Order T) → ahead x y ≡ true → ahead y x ≡ true → at_level x.pair x.side x.price y ≡ true
  unfolding ahead at_level
  level_both x y h k =
      let s = bytes_sym x.pair.bytes y.pair.bytes in
      let c = clash x.pair.bytes y.pair.bytes x.pair.bytes in
      let r = same_bytes x.pair.bytes x.pair.bytes refl in
      let v = leads_both x.side x.price.count y.side y.price.count in
      grind (arith, nat_tests)

  -- the order at another pair, side and price
  abbrev pub level_order : Pair → Side → Price → Order T → Order T
  level_order p s c x = record { pair = p; side = s; id = x.id; price = c; amount = x.amount; terms = x.terms }

  level_parts : (p : Pair) (s : Side) (c : Price) (x : Order T) → at_level p s c x ≡ true → (x.pair.bytes ≡ p.bytes) × (x.side ≡ s) × (x.price.count ≡ c.count)
  unfolding at_level
  level_parts p s c x h =
      let a = and_parts _ _ h in
      let b = and_parts _ _ a.1 in
      let n = b.1 in
      (bytes_same _ _ a.0, sides_same _ _ b.0, grind (arith, nat_tests))

  -- those at one pair, side and price are level
  pub level_ahead : (p : Pair) (s : Side) (c : Price) (x : Order T) → at_level p s c x ≡ true → ahead (level_order p s c x) x ≡ true
  unfolding ahead
  level_ahead p s c x h =
      let e = level_parts p s c x h in
      let b : leads s c.count x.side x.price.count ≡ true = ap₂ (leads s c.count) e.1 e.2 ∙ leads_itself s c.count in
      ap (λ z. cond z (leads s c.count x.side x.price.count) (before p.bytes x.pair.bytes)) (same_bytes p.bytes x.pair.bytes (sym e.0)) ∙ b

  ahead_level : (p : Pair) (s : Side) (c : Price) (x z : Order T) → at_level p s c z ≡ true → ahead x z ≡ true → ahead x (level_order p s c x) ≡ true
  unfolding ahead
  ahead_level p s c x z h k =
      let e = level_parts p s c z h in
      let a : bytes_eq x.pair.bytes p.bytes ≡ bytes_eq x.pair.bytes z.pair.bytes = ap (bytes_eq x.pair.bytes) (sym e.0) in
      let b : before x.pair.bytes p.bytes ≡ before x.pair.bytes z.pair.bytes = ap (before x.pair.bytes) (sym e.0) in
      let d : leads x.side x.price.count s c.count ≡ leads x.side x.price.count z.side z.price.count = ap₂ (leads x.side x.price.count) (sym e.1) (sym e.2) in
      cc

  -- an order that those at a pair, side and price do not stand behind, but that stands in front of one there, is there
  pub level_front : (p : Pair) (s : Side) (c : Price) (x z : Order T) → ahead (level_order p s c x) x ≡ true → ahead x z ≡ true → at_level p s c z ≡ true → at_level p s c x ≡ true
  level_front p s c x z f a h = level_both (level_order p s c x) x f (ahead_level p s c x z h a)
