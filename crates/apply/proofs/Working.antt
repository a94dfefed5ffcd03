-- What is worked of a message, from what was read of it and what the book did.
use Rattle.std.proofs.Common.{◌≡◌, ℕ, true, false, eqb, List, get_or, Ok, Err, Result, sym, refl, ap, ◌∙◌, subst, eqb-true}
use Rattle.book.specs.declared.order.Order.{Order}
use Rattle.venue.specs.Form as venue
use Rattle.message.specs.declared.fault.MessageFault.{MessageFault}
use Rattle.message.specs.Reading.{Reading, ◌▷◌}
use Rattle.orders.specs.Applied.{Applies}
use Rattle.apply.specs.declared.messages.Message.{Message}
use Rattle.apply.specs.Said.{Said, new, modify, cancel, listing, blank, trade, volume, LaidOut, summary, summed, said_by, snapshot_said, message_of}
use Rattle.apply.specs.Meaning.{after, with_ladder, worked, Works}
use Rattle.apply.proofs.Saying.{message_laws, by_snapshot}

module _ {T : Type 0} (F : venue.Form T) (m : List ℕ) (capacity : ℕ) (l l' : List (Order T)) where
  abbrev then : Said T → Reading (Said T × List (Order T))
  then s = with_ladder F capacity l s (after F capacity l s)

  -- a snapshot
  pub works_snapshot : (r : Result (Message T) MessageFault) → eqb (get_or m 0 0) 83 ≡ true → Works (snapshot_said F m ▷ then) l r l' → Works (worked F capacity l m) l r l'
  works_snapshot r c w = subst (λ x. Works (x ▷ then) l r l') (sym (by_snapshot F m (eqb-true _ _ c))) w

  -- a message that was not read
  pub works_fault : (f : MessageFault) → Err f ≡ summed (message_of F m) → l' ≡ l → Works (worked F capacity l m) l (Err f) l'
  works_fault f e k = by (message_of F m) e
    where
      by : (x : Reading (Said T)) → Err f ≡ summed x → Works (x ▷ then) l (Err f) l'
      by (Ok s) e = absurd cc
      by (Err g) e = (e, k)

  module _ (no : eqb (get_or m 0 0) 83 ≡ false) where
    -- any other message says what is told of it
    by_summary : (s : Said T) → LaidOut F m s → s ≡ said_by (summary s)
    by_summary (new o) h = refl
    by_summary (modify x) h = refl
    by_summary (cancel x) h = refl
    by_summary (listing ms) h = absurd (let c : get_or m 0 0 ≡ 83 = h.0 in cc)
    by_summary blank h = refl
    by_summary trade h = refl
    by_summary volume h = refl

    said : (y : Message T) → Ok y ≡ summed (message_of F m) → message_of F m ≡ Ok (said_by y)
    said y e = by (message_of F m) refl e
      where
        by : (x : Reading (Said T)) → message_of F m ≡ x → Ok y ≡ summed x → message_of F m ≡ Ok (said_by y)
        by (Ok s) k e = let same : summary s ≡ y = cc in k ∙ ap Ok (by_summary s ((message_laws F).sound m s k) ∙ ap said_by same)
        by (Err g) k e = absurd cc

    pub works_told : (y : Message T) → Ok y ≡ summed (message_of F m) → Applies (after F capacity l (said_by y)) l (Ok tt) l' → Works (worked F capacity l m) l (Ok y) l'
    works_told y e a =
        let k = said y e in
        subst (λ x. Works (x ▷ then) l (Ok y) l') (sym k) (subst (λ x. Works (with_ladder F capacity l (said_by y) x) l (Ok y) l') (sym a) (e ∙ ap summed k, refl))

    pub works_refused : (y : Message T) (f : MessageFault) → Ok y ≡ summed (message_of F m) → Applies (after F capacity l (said_by y)) l (Err f) l' → Works (worked F capacity l m) l (Err f) l'
    works_refused y f e a =
        subst (λ x. Works (x ▷ then) l (Err f) l') (sym (said y e)) (subst (λ x. Works (with_ladder F capacity l (said_by y) x) l (Err f) l') (sym a.1) (ap Err a.2, a.3))
