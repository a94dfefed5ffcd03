-- An order stands exactly when the last message accepted that names it puts it.
use Rattle.std.proofs.Common.{◌≡◌, ℕ, Bool, true, false, cond, ◌&&◌, ◌||◌, List, [], ◌∷◌, Some, None, Ok, Option, unwrap_or, sym, refl, ap, ◌∙◌, subst, ap₂}
use Rattle.std.proofs.Math.Bool.{or-false, or_self}
use Rattle.std.proofs.lemmas.Bool.{both_ways, and_parts, and_from}
use Rattle.std.specs.Option.{option_map, option_or}
use Rattle.fields.specs.Values.{Pair, Price, Amount}
use Rattle.book.specs.declared.order.Order.{Order}
use Rattle.book.specs.declared.order.Side.{Side}
use Rattle.book.specs.Ladder.{OrderId, same_pair, named, lookup, reset}
use Rattle.book.specs.Orderly.{same_bytes, named_one}
use Rattle.book.specs.Lookups.{lookup_none, lookup_named}
use Rattle.venue.specs.Form as venue
use Rattle.message.specs.declared.messages.Cancel.{Cancel}
use Rattle.message.specs.declared.messages.Modify.{Modify}
use Rattle.snapshot.specs.declared.mark.Mark.{Mark}
use Rattle.snapshot.specs.Listing.{lists, pairs_listed, orders_put, replaced}
use Rattle.orders.specs.Applied.{ids_agree, target, order_of_active}
use Rattle.orders.specs.Laws.{NewDone, CancelDone, ChangeDone, ModifyDone}
use Rattle.orders.proofs.Standings.{same_one, one_same, named_self}
use Rattle.apply.specs.Said.{Said, new, modify, cancel, listing, blank, trade, volume}
use Rattle.apply.specs.Meaning as message
use Rattle.apply.proofs.Keeping.{pair_one, replaced_listed, replaced_others, none_unlisted}
use Rattle.days.specs.Model.{Rules, Lawful, Sound, Point, Worked, work, next, after, reports, packets, start}
use Rattle.days.specs.History.{filled_as, with_price, puts, last_put, last_named, StandsAs, StandsBy, accepting, accepted}
use Rattle.days.specs.Theorem.{StandsByHistory}
use Rattle.days.proofs.Chunks.{follows}
use Rattle.days.proofs.Packets.{Did, nothing, accepts, did}
use Rattle.days.proofs.Fitting.{Fits, fits_none, new_done, cancel_done, modify_done, listing_done, passed, packet_fits}

one_pair : (q p : Pair) → q ≡ p → same_pair q p ≡ true
one_pair q p e = same_bytes q.bytes p.bytes (ap (λ x. x.bytes) e)

-- the target is named, whether it is the replaced id or the active one
ids_named : (r : Option OrderId) (a i : OrderId) → (ids_agree a i || filled_as r i) ≡ (ids_agree a i || ids_agree (unwrap_or r a) i)
ids_named None a i = or-false (ids_agree a i) ∙ sym (or_self (ids_agree a i))
ids_named (Some j) a i = refl

module _ {T : Type 0} where
  -- the facts of an order that stands
  of_standing : (p : Pair) (i : OrderId) (u : Option (Order T)) (w : Option (Side × Price)) (r : Option (Amount × T)) → StandsAs u p i w r → (o : Order T) → u ≡ Some o
      → (o.pair ≡ p) × (o.id ≡ i) × (w ≡ Some (o.side, o.price))
  of_standing p i u w None s o e = absurd cc
  of_standing p i u w (Some at) s o e =
      let same : s.0 ≡ o = cc in
      (ap (λ x. x.pair) (sym same) ∙ s.2, ap (λ x. x.id) (sym same) ∙ s.3, s.6 ∙ ap (λ x. Some (x.side, x.price)) same)

  -- a look-up by an equal pair and an equal id
  looked : (q : Pair) (j : OrderId) (p : Pair) (i : OrderId) → q ≡ p → j ≡ i → (l : List (Order T)) (u : Option (Order T)) → lookup q j l ≡ u → lookup p i l ≡ u
  looked q j p i a b l u e = ap₂ (λ x y. lookup x y l) (sym a) (sym b) ∙ e

  module _ (h : List (Said T)) (l l' : List (Order T)) (s : StandsBy h l) (p : Pair) (i : OrderId) where
    -- an id that is not named stands as before
    unchanged : lookup p i l' ≡ lookup p i l → StandsAs (lookup p i l') p i (last_put h p i) (last_named h p i)
    unchanged e = subst (λ u. StandsAs u p i (last_put h p i) (last_named h p i)) (sym e) (s p i)

    new_step : (capacity : ℕ) (o : Order T) → NewDone l capacity o l' → StandsAs (lookup p i l') p i (last_put (new o ∷ h) p i) (last_named (new o ∷ h) p i)
    new_step capacity o d = go (named p i o) refl
      where
        go : (b : Bool) → named p i o ≡ b
            → StandsAs (lookup p i l') p i (cond b (Some (o.side, o.price)) (last_put h p i)) (cond b (cond b (Some (o.amount, o.terms)) None) (last_named h p i))
        go true e = let k = named_one p i o e in (o, looked o.pair o.id p i k.0 k.1 l' (Some o) d.stands_then, k.0, k.1, refl, refl, refl)
        go false e = unchanged (d.others p i (λ a b. both_ways _ e (ap₂ (λ q j. named q j o) a b ∙ named_self o)))

    cancel_step : (x : Cancel) → CancelDone l x l' → StandsAs (lookup p i l') p i (last_put (cancel x ∷ h) p i) (last_named (cancel x ∷ h) p i)
    cancel_step x d = go (same_pair x.pair p && ids_agree x.id i) refl
      where
        go : (b : Bool) → (same_pair x.pair p && ids_agree x.id i) ≡ b → StandsAs (lookup p i l') p i (last_put h p i) (cond b None (last_named h p i))
        go true e = let k = and_parts _ _ e in looked x.pair x.id p i (pair_one x.pair p k.0) (same_one x.id i k.1) l' None d.gone
        go false e = unchanged (d.others p i (λ a b. both_ways _ e (and_from _ _ (one_pair x.pair p (sym a)) (one_same x.id i (sym b)))))

    modify_step : (x : Modify T) → (x.price ≡ None → x.replaced ≡ None) → ModifyDone l x l' → StandsAs (lookup p i l') p i (last_put (modify x ∷ h) p i) (last_named (modify x ∷ h) p i)
    modify_step x ok d =
        subst (λ n. StandsAs (lookup p i l') p i (last_put (modify x ∷ h) p i) (cond (same_pair x.pair p && n) (puts (modify x) p i) (last_named h p i)))
        (sym (ids_named x.replaced x.active i))
        (go x.price refl d.done (same_pair x.pair p) (ids_agree x.active i) (ids_agree (target x) i) refl refl refl)
      where
        go : (c : Option Price) → x.price ≡ c → ChangeDone l x c d.old l' → (b a t : Bool) → same_pair x.pair p ≡ b → ids_agree x.active i ≡ a → ids_agree (target x) i ≡ t
            → StandsAs (lookup p i l') p i (with_price c (b && a) (last_put h p (target x)) (last_put h p i))
            (cond (b && (a || t)) (cond (b && a) (Some (x.amount, x.terms)) None) (last_named h p i))
        go None ec k true true t eb ea et =
            let q = pair_one x.pair p eb in
            let j : target x ≡ i = ap (λ r. unwrap_or r x.active) (ok ec) ∙ same_one x.active i ea in
            let f = of_standing p i (lookup p i l) (last_put h p i) (last_named h p i) (s p i) d.old (looked x.pair (target x) p i q j l (Some d.old) d.stood) in
            (reset x.amount x.terms d.old, looked x.pair (target x) p i q j l' _ k.stands_then, f.0, f.1, refl, refl, f.2)
        go None ec k true false true eb ea et = absurd (both_ways _ ea (ap (λ r. ids_agree (unwrap_or r x.active) i) (sym (ok ec)) ∙ et))
        go None ec k true false false eb ea et = unchanged (k.others p i (λ a b. both_ways _ et (one_same (target x) i (sym b))))
        go None ec k false a t eb ea et = unchanged (k.others p i (λ a b. both_ways _ eb (one_pair x.pair p (sym a))))
        go (Some c) ec k true true t eb ea et =
            let q = pair_one x.pair p eb in
            let j = same_one x.active i ea in
            let f = of_standing p (target x) (lookup p (target x) l) (last_put h p (target x)) (last_named h p (target x)) (s p (target x)) d.old
            (looked x.pair (target x) p (target x) q refl l (Some d.old) d.stood) in
            (order_of_active x c d.old.side, looked x.pair x.active p i q j l' _ k.stands_then, q, j, refl, refl, ap (option_map (λ y. (y.0, c))) f.2)
        go (Some c) ec k true false true eb ea et =
            looked x.pair (target x) p i (pair_one x.pair p eb) (same_one (target x) i et) l' None (k.gone (λ e. both_ways _ ea (ap (λ j. ids_agree j i) e ∙ et)))
        go (Some c) ec k true false false eb ea et =
            unchanged (k.others p i (λ a b. both_ways _ et (one_same (target x) i (sym b))) (λ a b. both_ways _ ea (one_same x.active i (sym b))))
        go (Some c) ec k false a t eb ea et =
            unchanged (k.others p i (λ a b. both_ways _ eb (one_pair x.pair p (sym a))) (λ a b. both_ways _ eb (one_pair x.pair p (sym a))))

  listing_step : (h : List (Said T)) (l : List (Order T)) → StandsBy h l → (ms : List (Mark T)) → Sound (listing ms) → StandsBy (listing ms ∷ h) (replaced ms l)
  listing_step h l s ms ok p i = go (lists (pairs_listed ms) p) refl (lookup p i (orders_put ms)) refl
    where
      go : (b : Bool) → lists (pairs_listed ms) p ≡ b → (u : Option (Order T)) → lookup p i (orders_put ms) ≡ u
          → StandsAs (lookup p i (replaced ms l)) p i (option_or (option_map (λ o. (o.side, o.price)) u) (last_put h p i))
          (cond b (option_map (λ o. (o.amount, o.terms)) u) (last_named h p i))
      go true eb None eu = replaced_listed l ms ok.0 ok.1 p i eb ∙ eu
      go true eb (Some o) eu =
          let k = named_one p i o (lookup_named p i (orders_put ms) o eu) in
          (o, replaced_listed l ms ok.0 ok.1 p i eb ∙ eu, k.0, k.1, refl, refl, refl)
      go false eb None eu = unchanged h l (replaced ms l) s p i (replaced_others l ms ok.0 ok.1 p i eb)
      go false eb (Some o) eu =
          let n = lookup_none p i (orders_put ms) (none_unlisted (pairs_listed ms) p i (orders_put ms) ok.1 eb) in
          absurd cc

  module _ (F : venue.Form T) (capacity : ℕ) (h : List (Said T)) (l l' : List (Order T)) (f : Fits capacity l) (s : StandsBy h l) where
    -- a message that the ladder takes
    message_step : (m : Said T) → Sound m → message.after F capacity l m ≡ Ok l' → StandsBy (m ∷ h) l'
    message_step (new o) ok e = λ p i. new_step h l l' s p i capacity o (new_done l l' capacity o f.is_ladder f.within e)
    message_step (modify x) ok e = λ p i. modify_step h l l' s p i x ok (modify_done l l' F x f.is_ladder e)
    message_step (cancel x) ok e = λ p i. cancel_step h l l' s p i x (cancel_done l l' x f.is_ladder e)
    message_step (listing ms) ok e = subst (StandsBy (listing ms ∷ h)) (listing_done l l' capacity ms e).0 (listing_step h l s ms ok)
    message_step blank ok e = subst (StandsBy (blank ∷ h)) (passed l l' e) s
    message_step trade ok e = subst (StandsBy (trade ∷ h)) (passed l l' e) s
    message_step volume ok e = subst (StandsBy (volume ∷ h)) (passed l l' e) s

module _ {T : Type 0} (v : Rules T) (law : Lawful v) (capacity : ℕ) where
  packet_step : (h : List (Said T)) (at : Point T) (bs : List ℕ) → Fits capacity at.ladder → StandsBy h at.ladder
      → StandsBy (accepting v (work v capacity at bs).outcome bs h) (work v capacity at bs).ladder
  packet_step h at bs f s = go (work v capacity at bs) (did v capacity at.state at.ladder bs law)
    where
      go : (w : Worked T) → Did v capacity at.state at.ladder bs w → StandsBy (accepting v w.outcome bs h) w.ladder
      go w (nothing e a) = subst (λ g. StandsBy g w.ladder) (sym (a h)) (subst (StandsBy h) (sym e) s)
      go w (accepts m ok e q a) = subst (λ g. StandsBy g w.ladder) (sym (a h)) (message_step v.form capacity h at.ladder w.ladder f s m ok e)

  run_step : (ps : List (List ℕ)) (h : List (Said T)) (at : Point T) → Fits capacity at.ladder → StandsBy h at.ladder
      → StandsBy (accepted v ps (reports v capacity at ps) h) (after v capacity at ps).ladder
  run_step [] h at f s = s
  run_step (p ∷ ps) h at f s =
      run_step ps (accepting v (work v capacity at p).outcome p h) (next v capacity at p) (packet_fits v law capacity at p f) (packet_step h at p f s)

pub stands_by_history : {T : Type 0} (v : Rules T) → Lawful v → StandsByHistory v
stands_by_history v law capacity bs rs s l d =
    let f = follows v capacity law d in
    rw (f.ladder_is, f.reports_are) (run_step v law capacity (packets [] bs) [] start (fits_none capacity) (λ p i. refl))
