-- A day's ladder is in order, has no id twice in a pair, and is within the capacity.
use Rattle.std.proofs.Common.{◌≡◌, ℕ, ◌≤◌, leb, List, [], ◌∷◌, length, Ok, sym, refl, subst, arith}
use Rattle.std.proofs.lemmas.Bool.{cond_both, leb-true}
use Rattle.book.specs.declared.order.Order.{Order}
use Rattle.book.specs.Ladder.{Ladder}
use Rattle.venue.specs.Form as venue
use Rattle.message.specs.declared.messages.Cancel.{Cancel}
use Rattle.message.specs.declared.messages.Modify.{Modify}
use Rattle.snapshot.specs.declared.mark.Mark.{Mark}
use Rattle.snapshot.specs.Listing.{room_needed, replaced}
use Rattle.orders.specs.Applied.{After, new_after, cancel_after, modify_after}
use Rattle.orders.specs.Laws.{NewSays, NewDone, CancelSays, CancelDone, ModifySays, ModifyDone}
use Rattle.orders.proofs.Standings.{new_says, cancel_says, modify_says}
use Rattle.apply.specs.Said.{Said, new, modify, cancel, listing, blank, trade, volume}
use Rattle.apply.specs.Meaning as message
use Rattle.apply.proofs.Keeping.{replaced_ladder, replaced_length}
use Rattle.days.specs.Model.{Rules, Lawful, Sound, Point, Worked, work, next, after, packets, start}
use Rattle.days.specs.Theorem.{KeepsALadder}
use Rattle.days.proofs.Chunks.{follows}
use Rattle.days.proofs.Packets.{Did, nothing, accepts, did}

-- what an accepted message did, in the words of its law
module _ {T : Type 0} (l l' : List (Order T)) where
  pub new_done : (capacity : ℕ) (o : Order T) → Ladder l → length l ≤ capacity → new_after capacity l o ≡ Ok l' → NewDone l capacity o l'
  new_done capacity o h n e = subst (NewSays l capacity o) e (new_says capacity l o h n)

  pub cancel_done : (x : Cancel) → Ladder l → cancel_after l x ≡ Ok l' → CancelDone l x l'
  cancel_done x h e = subst (CancelSays l x) e (cancel_says l x h)

  pub modify_done : (F : venue.Form T) (x : Modify T) → Ladder l → modify_after F l x ≡ Ok l' → ModifyDone l x l'
  modify_done F x h e = subst (ModifySays l F x) e (modify_says F l x h)

  pub listing_done : (capacity : ℕ) (ms : List (Mark T)) → message.snapshot_after capacity l ms ≡ Ok l' → (replaced ms l ≡ l') × (room_needed ms l ≤ capacity)
  unfolding message.snapshot_after
  listing_done capacity ms =
      cond_both (leb (room_needed ms l) capacity) _ _ (λ (a : After T). a ≡ Ok l' → (replaced ms l ≡ l') × (room_needed ms l ≤ capacity))
      (λ t e. (cc, leb-true (room_needed ms l) capacity t))
      (λ f e. absurd cc)

  pub passed : ◌≡◌ {A = After T} (Ok l) (Ok l') → l ≡ l'
  passed e = cc

-- a ladder within the capacity
pub record Fits {T : Type 0} (capacity : ℕ) (l : List (Order T)) : Type 0 where
  pub is_ladder : Ladder l
  pub within : length l ≤ capacity

pub fits_none : {T : Type 0} (capacity : ℕ) → Fits {T = T} capacity []
fits_none capacity = record { is_ladder = record { sorted = refl; distinct = refl }; within = omega arith }

module _ {T : Type 0} (F : venue.Form T) (capacity : ℕ) (l l' : List (Order T)) (f : Fits capacity l) where
  pub message_fits : (m : Said T) → Sound m → message.after F capacity l m ≡ Ok l' → Fits capacity l'
  message_fits (new o) ok e =
      let d = new_done l l' capacity o f.is_ladder f.within e in
      record { is_ladder = d.is_ladder; within = omega (arith, d.long, d.room) }
  message_fits (modify x) ok e = let d = modify_done l l' F x f.is_ladder e in record { is_ladder = d.is_ladder; within = omega (arith, d.long, f.within) }
  message_fits (cancel x) ok e = let d = cancel_done l l' x f.is_ladder e in record { is_ladder = d.is_ladder; within = omega (arith, d.long, f.within) }
  message_fits (listing ms) ok e =
      let d = listing_done l l' capacity ms e in
      subst (Fits capacity) d.0 (record { is_ladder = replaced_ladder l ms ok.0 ok.1 f.is_ladder; within = omega (arith, replaced_length l ms, d.1) })
  message_fits blank ok e = subst (Fits capacity) (passed l l' e) f
  message_fits trade ok e = subst (Fits capacity) (passed l l' e) f
  message_fits volume ok e = subst (Fits capacity) (passed l l' e) f

module _ {T : Type 0} (v : Rules T) (law : Lawful v) (capacity : ℕ) where
  pub packet_fits : (at : Point T) (bs : List ℕ) → Fits capacity at.ladder → Fits capacity (work v capacity at bs).ladder
  packet_fits at bs f = go (work v capacity at bs) (did v capacity at.state at.ladder bs law)
    where
      go : (w : Worked T) → Did v capacity at.state at.ladder bs w → Fits capacity w.ladder
      go w (nothing e a) = subst (Fits capacity) (sym e) f
      go w (accepts m ok e s a) = message_fits v.form capacity at.ladder w.ladder f m ok e

  pub run_fits : (ps : List (List ℕ)) (at : Point T) → Fits capacity at.ladder → Fits capacity (after v capacity at ps).ladder
  run_fits [] at f = f
  run_fits (p ∷ ps) at f = run_fits ps (next v capacity at p) (packet_fits at p f)

pub keeps_a_ladder : {T : Type 0} (v : Rules T) → Lawful v → KeepsALadder v
keeps_a_ladder v law capacity bs rs s l d =
    let f = subst (Fits capacity) (sym (follows v capacity law d).ladder_is) (run_fits v law capacity (packets [] bs) start (fits_none capacity)) in
    (f.is_ladder, f.within)
