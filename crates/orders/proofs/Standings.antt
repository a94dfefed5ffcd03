-- Which orders stand after a message on one order.
use Rattle.std.proofs.Common.{◌≡◌, ℕ, ◌≤◌, Bool, true, false, cond, not, ◌&&◌, leb, List, [], ◌∷◌, length, is_some, Some, None, Ok, Err, Option, sym, refl, ap, ◌∙◌, subst, inl, inr, ⊎_elim, arith}
use Rattle.std.proofs.lemmas.Bool.{both_ways, and_parts, and_from, leb-true, leb-false, not-true}
use Rattle.std.specs.Str.{bytes_eq}
use Rattle.std.specs.Option.{option_map}
use Rattle.fields.specs.Values.{Pair, Price}
use Rattle.fields.proofs.Sames.{pair_same, label_same}
use Rattle.book.specs.declared.order.Order.{Order}
use Rattle.book.specs.declared.ladder.BookFault.TheVariants.{NotStanding, Standing, Full}
use Rattle.book.specs.Ladder.{OrderId, Ladder, same_pair, named, apart, stands, lookup, placed, without, amended, reset}
use Rattle.book.specs.Orderly.{split, bytes_same, same_bytes, named_one}
use Rattle.book.specs.Ladders.{placed_in_order, placed_apart, placed_is, without_none, without_in_order, without_apart, without_gone, amended_in_order, amended_apart}
use Rattle.book.specs.Lookups.{alone, lookup_stands, lookup_none, lookup_named, lookup_placed, lookup_without, lookup_amended, placed_length, without_length, amended_length, amended_rank}
use Rattle.venue.specs.Form as venue
use Rattle.message.specs.declared.messages.Cancel.{Cancel}
use Rattle.message.specs.declared.messages.Modify.{Modify}
use Rattle.orders.specs.Applied.{refusal, ids_agree, new_after, cancel_after, target, target_at, order_of_active, taken, changed, modify_by, modify_after}
use Rattle.orders.specs.Laws.{Other, StandsIn, Removed, NewSays, CancelSays, Free, AmendDone, RepriceDone, ChangeDone, ModifyDone, ModifySays}
use Rattle.orders.proofs.Afters.{free_after}

-- ids
pub same_one : (i j : OrderId) → ids_agree i j ≡ true → i ≡ j
same_one i j h = label_same 15 i j (bytes_same i.bytes j.bytes h)

pub one_same : (i j : OrderId) → i ≡ j → ids_agree i j ≡ true
one_same i j e = same_bytes i.bytes j.bytes (ap (λ k. k.bytes) e)

other_apart : (q : Pair) (j : OrderId) (p : Pair) (i : OrderId) → Other q j p i → (same_pair q p && bytes_eq j.bytes i.bytes) ≡ false
other_apart q j p i away = ⊎_elim
    (λ h. let b = and_parts _ _ h in absurd (away (pair_same q p (bytes_same _ _ b.0)) (same_one j i b.1)))
    (λ h. h)
    (split (same_pair q p && bytes_eq j.bytes i.bytes))

module _ {T : Type 0} where
  pub named_self : (o : Order T) → named o.pair o.id o ≡ true
  unfolding named
  named_self o = and_from _ _ (same_bytes o.pair.bytes o.pair.bytes refl) (same_bytes o.id.bytes o.id.bytes refl)

  -- an order is of no other pair and id
  not_named : (p : Pair) (i : OrderId) (o : Order T) → Other o.pair o.id p i → named p i o ≡ false
  not_named p i o away = ⊎_elim (λ h. let e = named_one p i o h in absurd (away e.0 e.1)) (λ h. h) (split (named p i o))

  not_named_by : (q : Pair) (j : OrderId) (o : Order T) → Other q j o.pair o.id → named q j o ≡ false
  not_named_by q j o away = not_named q j o (λ a b. away (sym a) (sym b))

  some_of : (p : Pair) (i : OrderId) (l : List (Order T)) → stands p i l ≡ true → StandsIn l p i
  some_of p i l h = go (lookup p i l) refl
    where
      go : (o : Option (Order T)) → lookup p i l ≡ o → StandsIn l p i
      go None e = absurd (both_ways _ (lookup_stands p i l ∙ ap is_some e) h)
      go (Some o) e = (o, e)

  removed : (p : Pair) (i : OrderId) (l : List (Order T)) (o : Order T) → apart l ≡ true → lookup p i l ≡ Some o → Removed o l (without p i l)
  removed p i [] o a h = cc
  removed p i (x ∷ l) o a h =
      let parts = and_parts _ _ a in
      (elim (named p i x) as (λ b. named p i x ≡ b → cond b (Some x) (lookup p i l) ≡ Some o → Removed o (x ∷ l) (cond b (without p i l) (x ∷ without p i l))) [
        | true ↦ λ n e. let same : x ≡ o = cc in record { front = []; back = l; was = ap (λ z. z ∷ l) same; is = without_none p i l (alone p i x l n parts.0) }
        | false ↦ λ n e. let r = removed p i l o parts.1 e in record { front = x ∷ r.front; back = r.back; was = ap (λ z. x ∷ z) r.was; is = ap (λ z. x ∷ z) r.is }
      ]) refl h

  module _ (capacity : ℕ) (l : List (Order T)) (o : Order T) (h : Ladder l) (few : length l ≤ capacity) where
    new_by : (b c : Bool) → stands o.pair o.id l ≡ b → leb capacity (length l) ≡ c → NewSays l capacity o (cond b (Err (refusal Standing 9)) (cond c (Err (refusal Full 0)) (Ok (placed o l))))
    new_by true c s f = inl (refl, some_of o.pair o.id l s)
    new_by false true s f = let full = leb-true capacity (length l) f in inr (refl, lookup_none o.pair o.id l s, omega arith)
    new_by false false s f = record {
      free = lookup_none o.pair o.id l s;
      room = leb-false capacity (length l) f;
      put = placed_is o l h.sorted;
      stands_then = lookup_placed o.pair o.id o l s ∙ ap (λ b. cond b (Some o) (lookup o.pair o.id l)) (named_self o);
      others = λ q j away. lookup_placed q j o l s ∙ ap (λ b. cond b (Some o) (lookup q j l)) (not_named_by q j o away);
      long = placed_length o l;
      is_ladder = record { sorted = placed_in_order o l h.sorted; distinct = placed_apart o l h.distinct s };
    }

    pub new_says : NewSays l capacity o (new_after capacity l o)
    unfolding new_after
    new_says = new_by (stands o.pair o.id l) (leb capacity (length l)) refl refl

  without_ladder : (p : Pair) (i : OrderId) (l : List (Order T)) → Ladder l → Ladder (without p i l)
  without_ladder p i l h = record { sorted = without_in_order p i l h.sorted; distinct = without_apart p i l h.distinct }

  others_without : (p : Pair) (i : OrderId) (l : List (Order T)) (q : Pair) (j : OrderId) → Other q j p i → lookup q j (without p i l) ≡ lookup q j l
  others_without p i l q j away = lookup_without q j p i l ∙ ap (λ b. cond b None (lookup q j l)) (other_apart q j p i away)

  module _ (l : List (Order T)) (x : Cancel) (h : Ladder l) where
    cancel_by : (b : Bool) → stands x.pair x.id l ≡ b → CancelSays l x (cond b (Ok (without x.pair x.id l)) (Err (refusal NotStanding 8)))
    cancel_by true s =
        let o = some_of x.pair x.id l s in
        record {
          old = o.0;
          stood = o.1;
          removed = removed x.pair x.id l o.0 h.distinct o.1;
          gone = lookup_none x.pair x.id _ (without_gone x.pair x.id l);
          others = others_without x.pair x.id l;
          long = without_length x.pair x.id l h.distinct s;
          is_ladder = without_ladder x.pair x.id l h;
        }
    cancel_by false s = (refl, lookup_none x.pair x.id l s)

    pub cancel_says : CancelSays l x (cancel_after l x)
    unfolding cancel_after
    cancel_says = cancel_by (stands x.pair x.id l) refl

  -- what amending does to one order
  abbrev pub amend : Modify T → Order T → Order T
  amend x y = cond (named x.pair (target x) y) (reset x.amount x.terms y) y

  amend_other : (x : Modify T) (y : Order T) → Other y.pair y.id x.pair (target x) → amend x y ≡ y
  amend_other x y away = ap (λ b. cond b (reset x.amount x.terms y) y) (not_named x.pair (target x) y away)

  others_amended : (x : Modify T) (l : List (Order T)) (q : Pair) (j : OrderId) → Other q j x.pair (target x) → option_map (amend x) (lookup q j l) ≡ lookup q j l
  others_amended x l q j away = go (lookup q j l) refl
    where
      go : (o : Option (Order T)) → lookup q j l ≡ o → option_map (amend x) o ≡ o
      go None e = refl
      go (Some y) e = let n = named_one q j y (lookup_named q j l y e) in ap Some (amend_other x y (λ a b. away (sym n.0 ∙ a) (sym n.1 ∙ b)))

  module _ (l : List (Order T)) (x : Modify T) (h : Ladder l) (old : Order T) (stood : lookup x.pair (target x) l ≡ Some old) where
    amend_target : amend x old ≡ reset x.amount x.terms old
    amend_target = ap (λ b. cond b (reset x.amount x.terms old) old) (lookup_named x.pair (target x) l old stood)

    amend_done : AmendDone l x old (amended x.pair (target x) x.amount x.terms l)
    amend_done = record {
      stands_then = lookup_amended x.pair (target x) x.pair (target x) x.amount x.terms l ∙ ap (option_map (amend x)) stood ∙ ap Some amend_target;
      others = λ q j away. lookup_amended q j x.pair (target x) x.amount x.terms l ∙ others_amended x l q j away;
      rank = λ k e. amended_rank x.pair (target x) x.amount x.terms l k ∙ ap (option_map (amend x)) e ∙ ap Some amend_target;
      ranks = λ k y e away. amended_rank x.pair (target x) x.amount x.terms l k ∙ ap (option_map (amend x)) e ∙ ap Some (amend_other x y away);
    }

    stood_then : stands x.pair (target x) l ≡ true
    stood_then = lookup_stands x.pair (target x) l ∙ ap is_some stood

    module _ (price : Price) (free : stands x.pair x.active (without x.pair (target x) l) ≡ false) where
      abbrev put_order : Order T
      put_order = order_of_active x price old.side

      abbrev left : List (Order T)
      left = without x.pair (target x) l

      reprice_done : RepriceDone l x price old (placed put_order left)
      reprice_done = record {
        between = left;
        removed = removed x.pair (target x) l old h.distinct stood;
        put = placed_is put_order left (without_in_order x.pair (target x) l h.sorted);
        stands_then = lookup_placed x.pair x.active put_order left free ∙ ap (λ b. cond b (Some put_order) (lookup x.pair x.active left)) (named_self put_order);
        gone = λ differ. lookup_placed x.pair (target x) put_order left free
            ∙ ap (λ b. cond b (Some put_order) (lookup x.pair (target x) left)) (not_named x.pair (target x) put_order (λ a b. differ b))
            ∙ lookup_none x.pair (target x) left (without_gone x.pair (target x) l);
        others = λ q j away far. lookup_placed q j put_order left free
            ∙ ap (λ b. cond b (Some put_order) (lookup q j left)) (not_named_by q j put_order far)
            ∙ others_without x.pair (target x) l q j away;
      }

      reprice_long : length (placed put_order left) ≡ length l
      reprice_long = placed_length put_order left ∙ without_length x.pair (target x) l h.distinct stood_then

      reprice_ladder : Ladder (placed put_order left)
      reprice_ladder = let w = without_ladder x.pair (target x) l h in record { sorted = placed_in_order put_order left w.sorted; distinct = placed_apart put_order left w.distinct free }

    is_free : taken l x ≡ false → Free l x
    is_free t = (elim (ids_agree (target x) x.active) as (λ b. ids_agree (target x) x.active ≡ b → (not b && stands x.pair x.active l) ≡ false → Free l x) [
      | true ↦ λ e k. inl (sym (same_one (target x) x.active e))
      | false ↦ λ e k. inr (lookup_none x.pair x.active l k)
    ]) refl t

    modify_done : (v : Option Price) → x.price ≡ v → taken l x ≡ false → ModifyDone l x (changed l x v old.side)
    modify_done v e t = go v e
      where
        free : stands x.pair x.active (without x.pair (target x) l) ≡ false
        free = free_after x.pair (target x) x.active l t

        go : (v : Option Price) → x.price ≡ v → ModifyDone l x (changed l x v old.side)
        go None e = record {
          old = old;
          stood = stood;
          free = is_free t;
          done = subst (λ w. ChangeDone l x w old (amended x.pair (target x) x.amount x.terms l)) (sym e) amend_done;
          long = amended_length x.pair (target x) x.amount x.terms l;
          is_ladder = record { sorted = amended_in_order x.amount x.terms x.pair (target x) l ∙ h.sorted; distinct = amended_apart x.amount x.terms x.pair (target x) l ∙ h.distinct };
        }
        go (Some price) e = record { old = old; stood = stood; free = is_free t; done = subst (λ w. ChangeDone l x w old (changed l x (Some price) old.side)) (sym e) (reprice_done price free); long = reprice_long price free; is_ladder = reprice_ladder price free }

    is_taken : (F : venue.Form T) → taken l x ≡ true → ModifySays l F x (Err (refusal Standing 8))
    is_taken F t =
        let b = and_parts _ _ t in
        inr (refl, (old, stood), (λ e. both_ways _ (not-true _ b.0) (one_same (target x) x.active (sym e))), some_of x.pair x.active l b.1)

    modify_by_taken : (F : venue.Form T) (b : Bool) → taken l x ≡ b → ModifySays l F x (cond b (Err (refusal Standing 8)) (Ok (changed l x x.price old.side)))
    modify_by_taken F true t = is_taken F t
    modify_by_taken F false t = modify_done x.price refl t

  pub modify_says : (F : venue.Form T) (l : List (Order T)) (x : Modify T) → Ladder l → ModifySays l F x (modify_after F l x)
  unfolding modify_after
  modify_says F l x h = go (lookup x.pair (target x) l) refl
    where
      go : (o : Option (Order T)) → lookup x.pair (target x) l ≡ o → ModifySays l F x (modify_by l x (target_at F x.replaced) o)
      go None e = inl (refl, e)
      go (Some old) e = modify_by_taken l x h old e F (taken l x) refl
