-- What one packet does: nothing to the ladder, or its message is accepted and gives the ladder then.
use Rattle.std.proofs.Common.{◌≡◌, ℕ, Bool, true, false, cond, List, ◌∷◌, drop, Ok, Err, Result, refl, ap, ◌∙◌}
use Rattle.fields.specs.Values.{TimeOfDay}
use Rattle.book.specs.declared.order.Order.{Order}
use Rattle.message.specs.Reading.{Reading, ◌▷◌}
use Rattle.packet.specs.declared.packets.Packet.{Packet}
use Rattle.packet.specs.declared.packets.Packet.TheVariants as packet
use Rattle.packet.specs.declared.packets.FormFault.{FormFault}
use Rattle.orders.specs.Applied.{After}
use Rattle.apply.specs.Said.{Said, message_of}
use Rattle.apply.specs.Meaning as message
use Rattle.days.specs.declared.state.State.{State}
use Rattle.days.specs.declared.faults.PacketFault.TheVariants.{NotTaken}
use Rattle.days.specs.Model.{Rules, Lawful, Sound, Worked, takes, refused, by_message, by_packet, by_letter, worked}
use Rattle.days.specs.History.{said_before, carried, carried_by, accepting}

module _ {T : Type 0} (v : Rules T) (capacity : ℕ) (s : State) (l : List (Order T)) (bs : List ℕ) where
  pub data Did (w : Worked T) : Type 0 where
    nothing : w.ladder ≡ l → ((h : List (Said T)) → accepting v w.outcome bs h ≡ h) → Did w
    accepts : (m : Said T) → Sound m → message.after v.form capacity l m ≡ Ok w.ladder → w.state ≡ s
        → ((h : List (Said T)) → accepting v w.outcome bs h ≡ m ∷ h) → Did w

  pub did : Lawful v → Did (worked v capacity s l bs)
  did law = letter (v.head bs) refl
    where
      carries : (c : ℕ) (p : Packet) → v.head bs ≡ Ok c → v.layout c bs ≡ Ok p → (h : List (Said T)) → carried_by v bs (v.head bs) h ≡ carried v bs (Ok p) h
      carries c p e k h = ap (λ r. carried_by v bs r h) e ∙ ap (λ r. carried v bs r h) k

      applied : (c : ℕ) (t : TimeOfDay) → v.head bs ≡ Ok c → v.layout c bs ≡ Ok (packet.Sequenced t) → (m : Said T) → message_of v.form (drop 10 bs) ≡ Ok m
          → (a : After T) → message.after v.form capacity l m ≡ a → Did (by_message v capacity s l (message.with_ladder v.form capacity l m a))
      applied c t e k m q (Err f) y = nothing refl (λ h. refl)
      applied c t e k m q (Ok l') y = accepts m (law.sound (drop 10 bs) m q) y refl (λ h. carries c (packet.Sequenced t) e k h ∙ ap (λ r. said_before v r h) q)

      said : (c : ℕ) (t : TimeOfDay) → v.head bs ≡ Ok c → v.layout c bs ≡ Ok (packet.Sequenced t) → (r : Reading (Said T)) → message_of v.form (drop 10 bs) ≡ r
          → Did (by_message v capacity s l (r ▷ λ m. message.with_ladder v.form capacity l m (message.after v.form capacity l m)))
      said c t e k (Err f) q = nothing refl (λ h. refl)
      said c t e k (Ok m) q = applied c t e k m q (message.after v.form capacity l m) refl

      laid : (c : ℕ) → v.head bs ≡ Ok c → (r : Result Packet FormFault) → v.layout c bs ≡ r → Did (by_packet v capacity s l bs r)
      laid c e (Err f) k = nothing refl (λ h. refl)
      laid c e (Ok (packet.LoginAccepted n)) k = nothing refl (carries c (packet.LoginAccepted n) e k)
      laid c e (Ok packet.LoginRejected) k = nothing refl (carries c packet.LoginRejected e k)
      laid c e (Ok packet.EndOfSession) k = nothing refl (carries c packet.EndOfSession e k)
      laid c e (Ok (packet.Sequenced t)) k = said c t e k (message_of v.form (drop 10 bs)) refl
      laid c e (Ok packet.Heartbeat) k = nothing refl (carries c packet.Heartbeat e k)
      laid c e (Ok packet.ErrorNotification) k = nothing refl (carries c packet.ErrorNotification e k)
      laid c e (Ok (packet.Directory n)) k = nothing refl (carries c (packet.Directory n) e k)

      taken : (c : ℕ) → v.head bs ≡ Ok c → (b : Bool) → Did (cond b (by_packet v capacity s l bs (v.layout c bs)) (refused v capacity s l NotTaken))
      taken c e true = laid c e (v.layout c bs) refl
      taken c e false = nothing refl (λ h. refl)

      letter : (r : Result ℕ FormFault) → v.head bs ≡ r → Did (by_letter v capacity s l bs r)
      letter (Err f) e = nothing refl (λ h. refl)
      letter (Ok c) e = taken c e (takes s c)
