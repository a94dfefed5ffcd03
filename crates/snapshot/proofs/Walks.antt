-- How walks join, and what the fields say of the scans.
use Rattle.std.proofs.Common.{◌≡◌, ℕ, suc, ◌+◌, ◌-◌, ◌<◌, ◌≤◌, Bool, true, false, cond, List, [], ◌∷◌, ◌++◌, length, Ok, Err, Option, Result, sym, refl, ap, ◌∙◌, subst, arith}
use Rattle.fields.specs.Values.{Pair, Price, Amount}
use Rattle.book.specs.Ladder.{OrderId}
use Rattle.book.specs.declared.order.Side.{Side}
use Rattle.book.specs.declared.order.Side.TheVariants.{Bid, Offer}
use Rattle.readers.specs.Values.{pair_of, label_of, amount_of}
use Rattle.venue.specs.Form as venue
use Rattle.message.specs.Reading.{Reading, value_at, tail_at, ◌▷◌}
use Rattle.message.proofs.Readings.{value_read, tail_read}
use Rattle.message.specs.declared.fault.MessageFault.{MessageFault}
use Rattle.snapshot.specs.declared.mark.Mark.{Mark}
use Rattle.snapshot.specs.declared.mark.Mark.TheVariants.{Lists, Puts}
use Rattle.snapshot.specs.Scanning.{Scan, ◌▸◌, ◌⨟◌, field_at, tail_then, times}
use Rattle.snapshot.specs.Snapshot.{whole_order, order_at, side_at, pair_at}
use Rattle.snapshot.specs.Named.{named_at}
use Rattle.snapshot.specs.Walked.{Runs, Walked}

pub no : {X : Type 0} {A : Type 0} {v : A} {y : MessageFault} → ◌≡◌ {A = Result A MessageFault} (Ok v) (Err y) → X
no h = let z : ◌≡◌ {A = ℕ} 0 1 = cc in absurd (omega arith)

module _ {S A : Type 0} (R : S → A → S → Type 0) where
  pub runs_join : (s t u : S) (xs ys : List A) → Runs R s xs t → Runs R t ys u → Runs R s (xs ++ ys) u
  runs_join s t u [] ys h k = subst (λ z. Runs R z ys u) h k
  runs_join s t u (x ∷ xs) ys h k = (h.0, h.1, runs_join h.0 t u xs ys h.2 k)

  -- nothing but what is listed was done
  pub walked_ok : (xs : List A) (e : ℕ) (s u : S) → Runs R s xs u → Walked R (Ok (xs, e)) s (Ok e) u
  walked_ok xs e s u h = record { answer = refl; done = λ ms q k. let same : ◌≡◌ {A = List A × ℕ} (xs, e) (ms, q) = cc in subst (λ z. Runs R s z u) (ap (λ t. t.0) same) h }

  pub walked_one : (x : A) (e : ℕ) (s u : S) → R s x u → Walked R (Ok (x ∷ [], e)) s (Ok e) u
  walked_one x e s u h = walked_ok (x ∷ []) e s u (u, h, refl)

  pub walked_err : (y : MessageFault) (s u : S) → Walked R (Err y) s (Err y) u
  walked_err y s u = record { answer = refl; done = λ ms q k. no (sym k) }

  pub moved : {x y : Scan (List A)} {s u : S} {r : Result ℕ MessageFault} → x ≡ y → Walked R y s r u → Walked R x s r u
  moved {x} {y} {s} {u} {r} e h = subst (λ z. Walked R z s r u) (sym e) h

  pub answered : {x : Scan (List A)} {s u : S} {r q : Result ℕ MessageFault} → r ≡ q → Walked R x s q u → Walked R x s r u
  answered {x} {s} {u} e h = subst (λ z. Walked R x s z u) (sym e) h

  -- a fault that ends the walk: what is answered is that fault
  pub faulted : {x : Scan (List A)} {s u : S} {r : Result ℕ MessageFault} (e y : MessageFault) → x ≡ Err e → r ≡ Err y → y ≡ e → Walked R x s r u
  faulted {x} {s} {u} {r} e y h k j = moved h (answered (k ∙ ap Err j) (walked_err e s u))

  -- one walk, and then another from where it ends
  pub walked_then : (x : Scan (List A)) (f : ℕ → Scan (List A)) (s t u : S) (e : ℕ) (r : Result ℕ MessageFault) → Walked R x s (Ok e) t → Walked R (f e) t r u → Walked R (x ⨟ f) s r u
  walked_then (Ok v) f s t u e r h k =
      let z = h.answer in
      let same : e ≡ v.1 = cc in
      by_next (f v.1) (subst (λ q. Walked R (f q) t r u) same k)
    where
      by_next : (y : Scan (List A)) → Walked R y t r u → Walked R (y ▸ λ ys e. Ok (v.0 ++ ys, e)) s r u
      by_next (Ok w) k = answered k.answer (walked_ok (v.0 ++ w.0) w.1 s u (runs_join s t u v.0 w.0 (h.done v.0 v.1 refl) (k.done w.0 w.1 refl)))
      by_next (Err y) k = answered k.answer (walked_err y s u)
  walked_then (Err y) f s t u e r h k = no h.answer

  -- a walk that meets a fault ends there
  pub walked_stop : (x : Scan (List A)) (f : ℕ → Scan (List A)) (s t : S) (y : MessageFault) (u : S) → Walked R x s (Err y) t → Walked R (x ⨟ f) s (Err y) u
  walked_stop (Ok v) f s t y u h = no (sym h.answer)
  walked_stop (Err w) f s t y u h = answered h.answer (walked_err w s u)

  module _ (f : ℕ → Scan (List A)) (n start : ℕ) (first : S) where
    -- of n turns of f, i are done: a walk over those left, from here, is a walk over all
    pub record TurnsLeft (i at : ℕ) (s : S) : Type 0 where
      pub over : (r : Result ℕ MessageFault) (u : S) → Walked R (times f (n - i) at) s r u → Walked R (times f n start) first r u

    pub turns_all : TurnsLeft 0 start first
    turns_all = record { over = λ r u w. let z : n - 0 ≡ n = omega arith in subst (λ k. Walked R (times f k start) first r u) z w }

    module _ (i at : ℕ) (s : S) (left : TurnsLeft i at s) where
      pub turns_done : n ≤ i → Walked R (times f n start) first (Ok at) s
      unfolding times
      turns_done h = let z : n - i ≡ 0 = omega arith in left.over (Ok at) s (moved (ap (λ k. times f k at) z) (walked_ok [] at s s refl))

      module _ (h : i < n) (t : S) where
        one_more : times f (n - i) at ≡ (f at ⨟ times f (n - (i + 1)))
        unfolding times
        one_more = let z : n - i ≡ suc (n - (i + 1)) = omega arith in ap (λ k. times f k at) z

        pub turns_next : (e : ℕ) → Walked R (f at) s (Ok e) t → TurnsLeft (i + 1) e t
        turns_next e a = record { over = λ r u b. left.over r u (moved one_more (walked_then (f at) (times f (n - (i + 1))) s t u e r a b)) }

        pub turns_stop : (y : MessageFault) (r : Result ℕ MessageFault) → Walked R (f at) s (Err y) t → r ≡ Err y → Walked R (times f n start) first r t
        turns_stop y r a k = answered k (left.over (Err y) t (moved one_more (walked_stop (f at) (times f (n - (i + 1))) s t y t a)))

-- the offset after a value
module _ {A : Type 0} (m : List ℕ) (w : ℕ) (f : List ℕ → Option A) (p : ℕ) where
  -- what is read lies in the message
  pub record FieldScanned (v : A) (e : ℕ) : Type 0 where
    pub after : e ≡ p + w
    pub inside : e ≤ length m
    pub value : value_at m w f p ≡ Ok v

  pub field_inside : {v : A} {e : ℕ} → field_at m w f p ≡ Ok (v, e) → FieldScanned v e
  unfolding field_at
  field_inside {v} {e} h = by (value_at m w f p) refl h
    where
      by : (x : Reading A) → value_at m w f p ≡ x → ◌≡◌ {A = Scan A} (x ▷ λ v. Ok (v, p + w)) (Ok (v, e)) → FieldScanned v e
      by (Err y) k h = no (sym h)
      by (Ok u) k h =
          let same : ◌≡◌ {A = A × ℕ} (u, p + w) (v, e) = cc in
          let end : p + w ≡ e = ap (λ t. t.1) same in
          let within = (value_read m w f p u k).within in
          record { after = sym end; inside = subst (λ n. n ≤ length m) end within; value = k ∙ ap (λ t. Ok t.0) same }

module _ {T : Type 0} (F : venue.Form T) (m : List ℕ) (p : ℕ) where
  pub record TailScanned (t : T) (e : ℕ) : Type 0 where
    pub after : e ≡ p + F.width
    pub inside : e ≤ length m
    pub value : tail_at F m p ≡ Ok t

  pub tail_inside : {t : T} {e : ℕ} → tail_then F m p ≡ Ok (t, e) → TailScanned t e
  unfolding tail_then
  tail_inside {t} {e} h = by (tail_at F m p) refl h
    where
      by : (x : Reading T) → tail_at F m p ≡ x → ◌≡◌ {A = Scan T} (x ▷ λ v. Ok (v, p + F.width)) (Ok (t, e)) → TailScanned t e
      by (Err y) k h = no (sym h)
      by (Ok u) k h =
          let same : ◌≡◌ {A = T × ℕ} (u, p + F.width) (t, e) = cc in
          let end : p + F.width ≡ e = ap (λ t. t.1) same in
          let within = (tail_read F m p u k).within in
          record { after = sym end; inside = subst (λ n. n ≤ length m) end within; value = k ∙ ap (λ t. Ok t.0) same }

-- what the fields say of the scans
module _ {T : Type 0} (F : venue.Form T) (m : List ℕ) where
  abbrev Marks : Type 0
  Marks = Scan (List (Mark T))

  module _ (c : Pair) (s : Side) where
    -- an order is its amount, and then its id and terms
    module _ (v : Price) where
      abbrev Put : Amount → ℕ × OrderId × T → ℕ → Marks
      Put a x e = Ok (Puts x.0 (whole_order c s v a x.1 x.2) ∷ [], e)

      order_named : (p : ℕ) → order_at F m c s v p ≡ (field_at m 16 amount_of p ▸ λ a q. named_at F m q ▸ Put a)
      unfolding order_at named_at
      order_named p = by (field_at m 16 amount_of p)
        where
          tail_last : (a : Amount) (q : ℕ) (x : Scan OrderId) → (x ▸ λ i r. tail_then F m r ▸ λ t e. Put a (q, i, t) e) ≡ ((x ▸ λ i r. tail_then F m r ▸ λ t e. Ok ((q, i, t), e)) ▸ Put a)
          tail_last a q (Ok x) = by_tail (tail_then F m x.1)
            where
              by_tail : (y : Scan T) → (y ▸ λ t e. Put a (q, x.0, t) e) ≡ ((y ▸ λ t e. Ok ((q, x.0, t), e)) ▸ Put a)
              by_tail (Ok y) = refl
              by_tail (Err y) = refl
          tail_last a q (Err y) = refl

          tail_first : (a : Amount) (x : Scan T) → (x ▸ λ t r. field_at m 15 (label_of 15) r ▸ λ i e. Put a (r, i, t) e) ≡ ((x ▸ λ t r. field_at m 15 (label_of 15) r ▸ λ i e. Ok ((r, i, t), e)) ▸ Put a)
          tail_first a (Ok x) = by_id (field_at m 15 (label_of 15) x.1)
            where
              by_id : (y : Scan OrderId) → (y ▸ λ i e. Put a (x.1, i, x.0) e) ≡ ((y ▸ λ i e. Ok ((x.1, i, x.0), e)) ▸ Put a)
              by_id (Ok y) = refl
              by_id (Err y) = refl
          tail_first a (Err y) = refl

          by_order : (a : Amount) (q : ℕ) (b : Bool) → cond b (tail_then F m q ▸ λ t r. field_at m 15 (label_of 15) r ▸ λ i e. Put a (r, i, t) e) (field_at m 15 (label_of 15) q ▸ λ i r. tail_then F m r ▸ λ t e. Put a (q, i, t) e)
              ≡ (cond b (tail_then F m q ▸ λ t r. field_at m 15 (label_of 15) r ▸ λ i e. Ok ((r, i, t), e)) (field_at m 15 (label_of 15) q ▸ λ i r. tail_then F m r ▸ λ t e. Ok ((q, i, t), e)) ▸ Put a)
          by_order a q true = tail_first a (tail_then F m q)
          by_order a q false = tail_last a q (field_at m 15 (label_of 15) q)

          by : (x : Scan Amount) → (x ▸ λ a q. cond F.order_tail_first
              (tail_then F m q ▸ λ t r. field_at m 15 (label_of 15) r ▸ λ i e. Put a (r, i, t) e)
              (field_at m 15 (label_of 15) q ▸ λ i r. tail_then F m r ▸ λ t e. Put a (q, i, t) e))
              ≡ (x ▸ λ a q. named_at F m q ▸ Put a)
          by (Ok x) = by_order x.0 x.1 F.order_tail_first
          by (Err y) = refl

      pub order_read : (p : ℕ) {a : Amount} {q : ℕ} {x : ℕ × OrderId × T} {e : ℕ} → field_at m 16 amount_of p ≡ Ok (a, q) → named_at F m q ≡ Ok (x, e) → order_at F m c s v p ≡ Ok (Puts x.0 (whole_order c s v a x.1 x.2) ∷ [], e)
      order_read p a b = order_named p ∙ rw (a, b)

      pub order_unsized : (p : ℕ) {y : MessageFault} → field_at m 16 amount_of p ≡ Err y → order_at F m c s v p ≡ Err y
      order_unsized p a = order_named p ∙ rw a

      pub order_unnamed : (p : ℕ) {a : Amount} {q : ℕ} {y : MessageFault} → field_at m 16 amount_of p ≡ Ok (a, q) → named_at F m q ≡ Err y → order_at F m c s v p ≡ Err y
      order_unnamed p a b = order_named p ∙ rw (a, b)

  pub pair_read : (p : ℕ) {c : Pair} {q : ℕ} → field_at m 7 pair_of p ≡ Ok (c, q) → pair_at F m p ≡ (Ok (Lists p c ∷ [], q) ⨟ λ u. side_at F m c Bid u ⨟ λ r. side_at F m c Offer r)
  unfolding pair_at
  pair_read p a = rw a

-- what a loop over n turns keeps and gives
pub ruleset turns = (turns_all, turns_next, turns_stop, turns_done)

-- what an order's fields give
pub ruleset order_walks = (walked_one, walked_err, order_read, order_unsized, order_unnamed)

-- one walk and then another
pub ruleset walks = (walked_err, walked_ok, walked_then, walked_stop)
