-- The first repeat among the marks of a snapshot, and orders put by marks without repeats.
use Rattle.std.proofs.Common.{◌≡◌, ℕ, Bool, true, false, cond, not, ◌||◌, List, [], ◌∷◌, ◌++◌, Some, None, sym, refl, ap, ◌∙◌, ap₂, append_assoc, append-nil, arith}
use Rattle.std.proofs.lemmas.Bool.{and_from, or_parts}
use Rattle.book.specs.declared.order.Order.{Order}
use Rattle.book.specs.Ladder.{named, stands, apart}
use Rattle.book.specs.Orderly.{bytes_sym}
use Rattle.snapshot.specs.declared.mark.Mark.{Mark}
use Rattle.snapshot.specs.declared.mark.Mark.TheVariants.{Lists, Puts}
use Rattle.snapshot.specs.Listing.{orders_put}
use Rattle.snapshot.specs.Repeats.{place_of, alike, repeats, first_repeat, Distinct, RepeatAt}

module _ {T : Type 0} where
  -- none of ms repeats one before it, where seen stand before all of them
  record ApartFrom (seen ms : List (Mark T)) : Type 0 where
    pub apart : (front back : List (Mark T)) (x : Mark T) → ms ≡ front ++ (x ∷ back) → repeats (seen ++ front) x ≡ false

  -- one more mark is seen
  onward : (seen ms : List (Mark T)) (y : Mark T) → repeats seen y ≡ false → ApartFrom (seen ++ (y ∷ [])) ms → ApartFrom seen (y ∷ ms)
  onward seen ms y h a = record { apart = by }
    where
      by : (front back : List (Mark T)) (x : Mark T) → y ∷ ms ≡ front ++ (x ∷ back) → repeats (seen ++ front) x ≡ false
      by [] back x e =
          let same : y ≡ x = cc in
          ap₂ repeats (append-nil seen) (sym same) ∙ h
      by (z ∷ front) back x e =
          let same : y ≡ z = cc in
          let rest : ms ≡ front ++ (x ∷ back) = cc in
          ap (λ l. repeats l x) (ap (λ t. seen ++ (t ∷ front)) (sym same) ∙ sym (append_assoc seen (y ∷ []) front)) ∙ a.apart front back x rest

  first_of : (seen ms : List (Mark T)) (y : Mark T) → ApartFrom seen (y ∷ ms) → repeats seen y ≡ false
  first_of seen ms y a = ap (λ l. repeats l y) (sym (append-nil seen)) ∙ a.apart [] ms y refl

  rest_of : (seen ms : List (Mark T)) (y : Mark T) → ApartFrom seen (y ∷ ms) → ApartFrom (seen ++ (y ∷ [])) ms
  rest_of seen ms y a = record {
    apart = λ front back x e. ap (λ l. repeats l x) (append_assoc seen (y ∷ []) front) ∙ a.apart (y ∷ front) back x (ap (λ t. y ∷ t) e);
  }

  no_front : (front back : List (Mark T)) (x : Mark T) → [] ≡ front ++ (x ∷ back) → ⊥
  no_front [] back x e = let z : ◌≡◌ {A = ℕ} 0 1 = cc in omega arith
  no_front (y ∷ front) back x e = let z : ◌≡◌ {A = ℕ} 0 1 = cc in omega arith

  apart_nil : (seen : List (Mark T)) → ApartFrom seen []
  apart_nil seen = record { apart = λ front back x e. absurd (no_front front back x e) }

  none_apart : (seen ms : List (Mark T)) → first_repeat seen ms ≡ None → ApartFrom seen ms
  none_apart seen [] h = apart_nil seen
  none_apart seen (y ∷ ms) h = by (repeats seen y) refl h (none_apart (seen ++ (y ∷ [])) ms)
    where
      by : (b : Bool) → repeats seen y ≡ b → cond b (Some (place_of y)) (first_repeat (seen ++ (y ∷ [])) ms) ≡ None
          → (first_repeat (seen ++ (y ∷ [])) ms ≡ None → ApartFrom (seen ++ (y ∷ [])) ms) → ApartFrom seen (y ∷ ms)
      by true e k ih = let z : ◌≡◌ {A = ℕ} 0 1 = cc in absurd (omega arith)
      by false e k ih = onward seen ms y e (ih k)

  apart_none : (seen ms : List (Mark T)) → ApartFrom seen ms → first_repeat seen ms ≡ None
  apart_none seen [] a = refl
  apart_none seen (y ∷ ms) a =
      ap (λ b. cond b (Some (place_of y)) (first_repeat (seen ++ (y ∷ [])) ms)) (first_of seen ms y a) ∙ apart_none (seen ++ (y ∷ [])) ms (rest_of seen ms y a)

  pub none_distinct : (ms : List (Mark T)) → first_repeat [] ms ≡ None → Distinct ms
  none_distinct ms h = record { apart = (none_apart [] ms h).apart }

  pub distinct_none : (ms : List (Mark T)) → Distinct ms → first_repeat [] ms ≡ None
  distinct_none ms d = apart_none [] ms (record { apart = d.apart })

  -- the mark at offset p repeats one before it or of those seen, and none before that one does
  record RepeatFrom (seen ms : List (Mark T)) (p : ℕ) : Type 0 where
    pub front : List (Mark T)
    pub mark : Mark T
    pub back : List (Mark T)
    pub split : ms ≡ front ++ (mark ∷ back)
    pub at_offset : place_of mark ≡ p
    pub repeated : repeats (seen ++ front) mark ≡ true
    pub first : ApartFrom seen front

  some_from : (seen ms : List (Mark T)) (p : ℕ) → first_repeat seen ms ≡ Some p → RepeatFrom seen ms p
  some_from seen [] p h = let z : ◌≡◌ {A = ℕ} 0 1 = cc in absurd (omega arith)
  some_from seen (y ∷ ms) p h = by (repeats seen y) refl h (some_from (seen ++ (y ∷ [])) ms p)
    where
      by : (b : Bool) → repeats seen y ≡ b → cond b (Some (place_of y)) (first_repeat (seen ++ (y ∷ [])) ms) ≡ Some p
          → (first_repeat (seen ++ (y ∷ [])) ms ≡ Some p → RepeatFrom (seen ++ (y ∷ [])) ms p) → RepeatFrom seen (y ∷ ms) p
      by true e k ih = record {
        front = [];
        mark = y;
        back = ms;
        split = refl;
        at_offset = cc;
        repeated = ap (λ l. repeats l y) (append-nil seen) ∙ e;
        first = apart_nil seen;
      }
      by false e k ih = let r = ih k in record {
        front = y ∷ r.front;
        mark = r.mark;
        back = r.back;
        split = ap (λ t. y ∷ t) r.split;
        at_offset = r.at_offset;
        repeated = ap (λ l. repeats l r.mark) (sym (append_assoc seen (y ∷ []) r.front)) ∙ r.repeated;
        first = onward seen r.front y e r.first;
      }

  from_some : (seen front back : List (Mark T)) (x : Mark T) → ApartFrom seen front → repeats (seen ++ front) x ≡ true → first_repeat seen (front ++ (x ∷ back)) ≡ Some (place_of x)
  from_some seen [] back x a h =
      ap (λ b. cond b (Some (place_of x)) (first_repeat (seen ++ (x ∷ [])) back)) (ap (λ l. repeats l x) (sym (append-nil seen)) ∙ h)
  from_some seen (y ∷ front) back x a h =
      ap (λ b. cond b (Some (place_of y)) (first_repeat (seen ++ (y ∷ [])) (front ++ (x ∷ back)))) (first_of seen front y a)
      ∙ from_some (seen ++ (y ∷ [])) front back x (rest_of seen front y a) (ap (λ l. repeats l x) (append_assoc seen (y ∷ []) front) ∙ h)

  pub some_repeat : (ms : List (Mark T)) (p : ℕ) → first_repeat [] ms ≡ Some p → RepeatAt ms p
  some_repeat ms p h = let r = some_from [] ms p h in record {
    front = r.front;
    mark = r.mark;
    back = r.back;
    split = r.split;
    at_offset = r.at_offset;
    repeated = r.repeated;
    first = record { apart = r.first.apart };
  }

  pub repeat_some : (ms : List (Mark T)) (p : ℕ) → RepeatAt ms p → first_repeat [] ms ≡ Some p
  repeat_some ms p r = ap (first_repeat []) r.split
      ∙ from_some [] r.front r.back r.mark (record { apart = r.first.apart }) r.repeated ∙ ap Some r.at_offset

  alike_named : (p q : ℕ) (o n : Order T) → alike (Puts p o) (Puts q n) ≡ named o.pair o.id n
  unfolding named alike
  alike_named p q o n = cc (bytes_sym o.pair.bytes n.pair.bytes, bytes_sym o.id.bytes n.id.bytes)

  stands_none : (p : ℕ) (o : Order T) (ms : List (Mark T)) → ((front back : List (Mark T)) (x : Mark T) → ms ≡ front ++ (x ∷ back) → alike (Puts p o) x ≡ false)
      → stands o.pair o.id (orders_put ms) ≡ false
  stands_none p o [] f = refl
  stands_none p o (Lists q c ∷ ms) f = stands_none p o ms (λ front back x e. f (Lists q c ∷ front) back x (ap (λ t. Lists q c ∷ t) e))
  stands_none p o (Puts q n ∷ ms) f =
      ap₂ ◌||◌ (sym (alike_named p q o n) ∙ f [] ms (Puts q n) refl) (stands_none p o ms (λ front back x e. f (Puts q n ∷ front) back x (ap (λ t. Puts q n ∷ t) e)))

  behind_first : (y : Mark T) (ms : List (Mark T)) → Distinct (y ∷ ms) → Distinct ms
  behind_first y ms d = record { apart = λ front back x e. (or_parts (alike y x) (repeats front x) (d.apart (y ∷ front) back x (ap (λ t. y ∷ t) e))).1 }

  -- the orders that are put without repeats have ids apart
  pub apart_put : (ms : List (Mark T)) → Distinct ms → apart (orders_put ms) ≡ true
  apart_put [] d = refl
  apart_put (Lists q c ∷ ms) d = apart_put ms (behind_first (Lists q c) ms d)
  apart_put (Puts q o ∷ ms) d = and_from _ _
      (ap not (stands_none q o ms (λ front back x e. (or_parts (alike (Puts q o) x) (repeats front x) (d.apart (Puts q o ∷ front) back x (ap (λ t. Puts q o ∷ t) e))).0)))
      (apart_put ms (behind_first (Puts q o) ms d))
