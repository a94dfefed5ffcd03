-- A message on one order is read exactly where it is laid out, and a fault names the first check that fails.
use Rattle.std.proofs.Common.{◌≡◌, ℕ, ◌+◌, ◌≤◌, Bool, true, false, cond, not, ◌&&◌, List, [], ◌∷◌, length, is_some, Some, None, Ok, Err, MatchBool, Option, sym, refl, ◌∙◌, subst, ap₂, arith, eq-eqb}
use Rattle.fields.specs.Values.{Pair, Price, Amount}
use Rattle.book.specs.Ladder.{OrderId}
use Rattle.book.specs.declared.order.Order.{Order}
use Rattle.readers.specs.Values.{pair_of, label_of, price_of, amount_of, side_of, optional_of, PairIs, LabelIs, PriceIs, AmountIs, OptionalIs}
use Rattle.readers.specs.Laws.{FieldLaw}
use Rattle.readers.specs.Lawful.{pair_law, label_law, price_law, amount_law, side_law}
use Rattle.readers.specs.Blanks.{optional_law, price_filled, label_filled}
use Rattle.venue.specs.Form as venue
use Rattle.message.specs.declared.fault.MessageFault.TheVariants.{Unpriced}
use Rattle.message.specs.declared.messages.Modify.{Modify}
use Rattle.message.specs.declared.messages.Cancel.{Cancel}
use Rattle.message.specs.Reading.{Reading, ◌▷◌, field, value_at, tail_at, sized}
use Rattle.message.specs.Orders.{any_id_at, replaced_offset, new_of, amend_of, end_of, reprice_of, modify_of, cancel_of}
use Rattle.message.specs.Laid.{TailIs, NewRow, AmendRow, RepriceRow, ModifyRow, CancelRow}
use Rattle.message.specs.Checks.{Tells, Never, LacksPrice, new_checks, amend_checks, end_checks, reprice_checks, cancel_checks, of_tail, of_any_id}
use Rattle.message.specs.Laws.{Exact, One}
use Rattle.message.proofs.Readings.{value_formed, tail_formed}
use Rattle.message.proofs.Chains.{Outcome, outcome_field, outcome_tail, sized_told, regroup, told_row}

any_price : FieldLaw 10 (OptionalIs 10 PriceIs) (optional_of 10 price_of)
any_price = optional_law 10 PriceIs price_of price_filled price_law

any_id : FieldLaw 15 (OptionalIs 15 (LabelIs 15)) (optional_of 15 (label_of 15))
any_id = optional_law 15 (LabelIs 15) (label_of 15) (label_filled 15) (label_law 15)

-- the field of a value is read as that value
laid : {A : Type 0} {w : ℕ} {Is : List ℕ → A → Type 0} {f : List ℕ → Option A} → FieldLaw w Is f → (m : List ℕ) (p : ℕ) (v : A) → p + w ≤ length m → Is (field p w m) v → value_at m w f p ≡ Ok v
laid {A} {w} {Is} {f} law m p v h l = value_formed m w f p v h (law.complete (field p w m) v l)

-- two readings of the same bytes
pub one_of : {A : Type 0} (r : Reading A) (Row : A → Type 0) → Exact r Row → One Row
one_of r Row x v w a b = let p = (x v).1 a in let q = (x w).1 b in cc

fits : {A : Type 0} (m : List ℕ) (n : ℕ) (r : Reading A) → length m ≡ n → sized m n r ≡ r
fits m n r h = rw (eq-eqb (length m) n h)

module _ {T : Type 0} (F : venue.Form T) (m : List ℕ) where
  tail_laid : (p : ℕ) (t : T) → p + F.width ≤ length m → TailIs F (field p F.width m) t → tail_at F m p ≡ Ok t
  tail_laid p t h l = tail_formed F m p t h l

  -- New
  pub new_tells : Tells (50 + F.width) (new_checks F m) Never (NewRow F m) m (new_of F m)
  unfolding new_of
  new_tells = sized_told Never (NewRow F m) m (50 + F.width) (new_checks F m) _ (λ long.
      outcome_field Never (NewRow F m) m 1 side_of 1 _ _ (omega arith) (λ s a.
      outcome_field Never (NewRow F m) m 7 pair_of 2 _ _ (omega arith) (λ c b.
      outcome_field Never (NewRow F m) m 15 (label_of 15) 9 _ _ (omega arith) (λ i d.
      outcome_field Never (NewRow F m) m 10 price_of 24 _ _ (omega arith) (λ v e.
      outcome_field Never (NewRow F m) m 16 amount_of 34 _ _ (omega arith) (λ q g.
      outcome_tail Never (NewRow F m) m F 50 [] _ (omega arith) (λ t k.
      record { long = long; side = side_law.sound _ s a; pair = pair_law.sound _ c b; id = (label_law 15).sound _ i d; price = price_law.sound _ v e; amount = amount_law.sound _ q g; terms = k })))))))

  new_complete : (o : Order T) → NewRow F m o → new_of F m ≡ Ok o
  unfolding new_of
  new_complete o r =
      let long = r.long in
      let a = laid side_law m 1 o.side (omega arith) r.side in
      let b = laid pair_law m 2 o.pair (omega arith) r.pair in
      let c = laid (label_law 15) m 9 o.id (omega arith) r.id in
      let d = laid price_law m 24 o.price (omega arith) r.price in
      let e = laid amount_law m 34 o.amount (omega arith) r.amount in
      let g = tail_laid 50 o.terms (omega arith) r.terms in
      fits m (50 + F.width) _ long ∙ rw (a, b, c, d, e, g)

  pub new_exact : Exact (new_of F m) (NewRow F m)
  new_exact o = (told_row _ _ Never (NewRow F m) m (new_of F m) o new_tells, new_complete o)

  -- Modify without price
  pub amend_tells : Tells (39 + F.width) (amend_checks F m) Never (AmendRow F m) m (amend_of F m)
  unfolding amend_of
  amend_tells = sized_told Never (AmendRow F m) m (39 + F.width) (amend_checks F m) _ (λ long.
      outcome_field Never (AmendRow F m) m 7 pair_of 1 _ _ (omega arith) (λ c b.
      outcome_field Never (AmendRow F m) m 15 (label_of 15) 8 _ _ (omega arith) (λ i d.
      outcome_field Never (AmendRow F m) m 16 amount_of 23 _ _ (omega arith) (λ q g.
      outcome_tail Never (AmendRow F m) m F 39 [] _ (omega arith) (λ t k.
      record { long = long; pair = pair_law.sound _ c b; active = (label_law 15).sound _ i d; price = refl; amount = amount_law.sound _ q g; replaced = refl; terms = k })))))

  amend_complete : (x : Modify T) → AmendRow F m x → amend_of F m ≡ Ok x
  unfolding amend_of
  amend_complete x r =
      let long = r.long in
      let b = laid pair_law m 1 x.pair (omega arith) r.pair in
      let c = laid (label_law 15) m 8 x.active (omega arith) r.active in
      let e = laid amount_law m 23 x.amount (omega arith) r.amount in
      let g = tail_laid 39 x.terms (omega arith) r.terms in
      let mk : Option Price → Option OrderId → Reading (Modify T) = λ p i. Ok (record { pair = x.pair; active = x.active; price = p; amount = x.amount; replaced = i; terms = x.terms }) in
      fits m (39 + F.width) _ long ∙ rw (b, c, e, g) (ap₂ mk (sym r.price) (sym r.replaced))

  pub amend_exact : Exact (amend_of F m) (AmendRow F m)
  amend_exact x = (told_row _ _ Never (AmendRow F m) m (amend_of F m) x amend_tells, amend_complete x)

  -- what the end of a priced Modify says, where the tail stands first and where it does not
  abbrev EndSays : Bool → T → Option OrderId → Type 0
  EndSays b t j =
      MatchBool b
      (TailIs F (field 49 F.width m) t × OptionalIs 15 (LabelIs 15) (field (49 + F.width) 15 m) j)
      (OptionalIs 15 (LabelIs 15) (field 49 15 m) j × TailIs F (field 64 F.width m) t)

  abbrev IdSays : Bool → Option OrderId → Type 0
  IdSays b j = OptionalIs 15 (LabelIs 15) (field (cond b (49 + F.width) 49) 15 m) j

  end_outcome : {A : Type 0} (Lacks : ℕ → Type 0) (Row : A → Type 0) (k : T × Option OrderId → Reading A) → length m ≡ 64 + F.width
      → ((t : T) (j : Option OrderId) → EndSays F.modify_tail_first t j → IdSays F.modify_tail_first j → Outcome Lacks Row [] (k (t, j))) → Outcome Lacks Row (end_checks F m) (end_of F m ▷ k)
  unfolding end_of
  end_outcome {A} Lacks Row k long next = by F.modify_tail_first next
    where
      by : (b : Bool) → ((t : T) (j : Option OrderId) → EndSays b t j → IdSays b j → Outcome Lacks Row [] (k (t, j)))
          → Outcome Lacks Row (cond b (of_tail F m 49 ∷ of_any_id m (49 + F.width) ∷ []) (of_any_id m 49 ∷ of_tail F m 64 ∷ []))
          ((cond b (tail_at F m 49 ▷ λ terms. any_id_at m (49 + F.width) ▷ λ replaced. Ok (terms, replaced)) (any_id_at m 49 ▷ λ replaced. tail_at F m 64 ▷ λ terms. Ok (terms, replaced))) ▷ k)
      by true next =
          subst (Outcome Lacks Row (of_tail F m 49 ∷ of_any_id m (49 + F.width) ∷ [])) (sym (regroup (tail_at F m 49) (λ terms. any_id_at m (49 + F.width) ▷ λ replaced. Ok (terms, replaced)) k))
          (outcome_tail Lacks Row m F 49 (of_any_id m (49 + F.width) ∷ []) _ (omega arith) (λ t e.
          subst (Outcome Lacks Row (of_any_id m (49 + F.width) ∷ [])) (sym (regroup (any_id_at m (49 + F.width)) (λ j. Ok (t, j)) k))
          (outcome_field Lacks Row m 15 (optional_of 15 (label_of 15)) (49 + F.width) [] _ (omega arith) (λ j d. let l = any_id.sound _ j d in next t j (e, l) l))))
      by false next =
          subst (Outcome Lacks Row (of_any_id m 49 ∷ of_tail F m 64 ∷ [])) (sym (regroup (any_id_at m 49) (λ replaced. tail_at F m 64 ▷ λ terms. Ok (terms, replaced)) k))
          (outcome_field Lacks Row m 15 (optional_of 15 (label_of 15)) 49 (of_tail F m 64 ∷ []) _ (omega arith) (λ j d.
          subst (Outcome Lacks Row (of_tail F m 64 ∷ [])) (sym (regroup (tail_at F m 64) (λ t. Ok (t, j)) k))
          (outcome_tail Lacks Row m F 64 [] _ (omega arith) (λ t e. let l = any_id.sound _ j d in next t j (l, e) l))))

  end_complete : (t : T) (j : Option OrderId) → length m ≡ 64 + F.width → EndSays F.modify_tail_first t j → end_of F m ≡ Ok (t, j)
  unfolding end_of
  end_complete t j long e = by F.modify_tail_first e
    where
      by : (b : Bool) → EndSays b t j
          → ◌≡◌ {A = Reading (T × Option OrderId)} (cond b (tail_at F m 49 ▷ λ terms. any_id_at m (49 + F.width) ▷ λ replaced. Ok (terms, replaced)) (any_id_at m 49 ▷ λ replaced. tail_at F m 64 ▷ λ terms. Ok (terms, replaced))) (Ok (t, j))
      by true e =
          let a = tail_laid 49 t (omega arith) e.0 in
          let d = laid any_id m (49 + F.width) j (omega arith) e.1 in
          rw (a, d)
      by false e =
          let d = laid any_id m 49 j (omega arith) e.0 in
          let a = tail_laid 64 t (omega arith) e.1 in
          rw (d, a)

  -- a replaced id is filled only where there is a price, or that is its fault
  last_outcome : (long : length m ≡ 64 + F.width) (c : Pair) (i : OrderId) (v : Option Price) (a : Amount) (t : T) (j : Option OrderId)
      → PairIs (field 1 7 m) c → LabelIs 15 (field 8 15 m) i → OptionalIs 10 PriceIs (field 23 10 m) v → AmountIs (field 33 16 m) a → EndSays F.modify_tail_first t j → IdSays F.modify_tail_first j
      → Outcome (LacksPrice F m) (RepriceRow F m) [] (cond (is_some j && not (is_some v)) (Err (Unpriced (replaced_offset F))) (Ok (record { pair = c; active = i; price = v; amount = a; replaced = j; terms = t })))
  last_outcome long c i v a t None p q r s e d = record { long = long; pair = p; active = q; price = r; amount = s; end = e; filled = λ h. refl }
  last_outcome long c i (Some w) a t (Some j) p q r s e d = record { long = long; pair = p; active = q; price = r; amount = s; end = e; filled = λ h. cc }
  last_outcome long c i None a t (Some j) p q r s e d = (refl, r, (j, d))

  pub reprice_tells : Tells (64 + F.width) (reprice_checks F m) (LacksPrice F m) (RepriceRow F m) m (reprice_of F m)
  unfolding reprice_of
  reprice_tells = sized_told (LacksPrice F m) (RepriceRow F m) m (64 + F.width) (reprice_checks F m) _ (λ long.
      outcome_field (LacksPrice F m) (RepriceRow F m) m 7 pair_of 1 _ _ (omega arith) (λ c b.
      outcome_field (LacksPrice F m) (RepriceRow F m) m 15 (label_of 15) 8 _ _ (omega arith) (λ i d.
      outcome_field (LacksPrice F m) (RepriceRow F m) m 10 (optional_of 10 price_of) 23 _ _ (omega arith) (λ v e.
      outcome_field (LacksPrice F m) (RepriceRow F m) m 16 amount_of 33 _ _ (omega arith) (λ a g.
      end_outcome (LacksPrice F m) (RepriceRow F m) _ long (λ t j x y.
      last_outcome long c i v a t j (pair_law.sound _ c b) ((label_law 15).sound _ i d) (any_price.sound _ v e) (amount_law.sound _ a g) x y))))))

  unlacking : (v : Option Price) (j : Option OrderId) → (v ≡ None → j ≡ None) → (is_some j && not (is_some v)) ≡ false
  unlacking v None h = refl
  unlacking (Some p) (Some j) h = refl
  unlacking None (Some j) h = let k = h refl in cc

  reprice_complete : (x : Modify T) → RepriceRow F m x → reprice_of F m ≡ Ok x
  unfolding reprice_of
  reprice_complete x r =
      let long = r.long in
      let b = laid pair_law m 1 x.pair (omega arith) r.pair in
      let c = laid (label_law 15) m 8 x.active (omega arith) r.active in
      let d = laid any_price m 23 x.price (omega arith) r.price in
      let e = laid amount_law m 33 x.amount (omega arith) r.amount in
      let g = end_complete x.terms x.replaced long r.end in
      let h = unlacking x.price x.replaced r.filled in
      fits m (64 + F.width) _ long ∙ rw (b, c, d, e, g, h)

  pub reprice_exact : Exact (reprice_of F m) (RepriceRow F m)
  reprice_exact x = (told_row _ _ (LacksPrice F m) (RepriceRow F m) m (reprice_of F m) x reprice_tells, reprice_complete x)

  pub modify_exact : Exact (modify_of F m) (ModifyRow F m)
  modify_exact = by F.priced
    where
      by : (b : Bool) → Exact (cond b (reprice_of F m) (amend_of F m)) (λ x. MatchBool b (RepriceRow F m x) (AmendRow F m x))
      by true = reprice_exact
      by false = amend_exact

pub cancel_tells : (m : List ℕ) → Tells 23 (cancel_checks m) Never (CancelRow m) m (cancel_of m)
unfolding cancel_of
cancel_tells m = sized_told Never (CancelRow m) m 23 (cancel_checks m) _ (λ long.
    outcome_field Never (CancelRow m) m 7 pair_of 1 _ _ (omega arith) (λ c b.
    outcome_field Never (CancelRow m) m 15 (label_of 15) 8 _ _ (omega arith) (λ i d.
    record { long = long; pair = pair_law.sound _ c b; id = (label_law 15).sound _ i d })))

cancel_complete : (m : List ℕ) (x : Cancel) → CancelRow m x → cancel_of m ≡ Ok x
unfolding cancel_of
cancel_complete m x r =
    let long = r.long in
    let b = laid pair_law m 1 x.pair (omega arith) r.pair in
    let c = laid (label_law 15) m 8 x.id (omega arith) r.id in
    fits m 23 _ long ∙ rw (b, c)

pub cancel_exact : (m : List ℕ) → Exact (cancel_of m) (CancelRow m)
cancel_exact m x = (told_row _ _ Never (CancelRow m) m (cancel_of m) x (cancel_tells m), cancel_complete m x)
