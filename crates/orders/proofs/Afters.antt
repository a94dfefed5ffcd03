-- The ladder after a message, from what the book's calls answer.
use Rattle.std.proofs.Common.{◌≡◌, true, false, not, ◌&&◌, List, Some, None, Ok, Err, sym, refl, ap, ◌∙◌, arith}
use Rattle.std.proofs.lemmas.Bool.{cond-true, cond-false}
use Rattle.fields.specs.Values.{Pair}
use Rattle.fields.proofs.Sames.{label_same}
use Rattle.book.specs.declared.order.Order.{Order}
use Rattle.book.specs.declared.ladder.BookFault.{BookFault}
use Rattle.book.specs.declared.ladder.BookFault.TheVariants.{NotStanding, Standing, Full}
use Rattle.book.specs.Ladder.{OrderId, stands, lookup, without}
use Rattle.book.specs.Calls.{number}
use Rattle.book.specs.Orderly.{bytes_same}
use Rattle.book.specs.Ladders.{stands_others, without_gone}
use Rattle.venue.specs.Form as venue
use Rattle.message.specs.declared.messages.Modify.{Modify}
use Rattle.orders.specs.Applied.{refusal, ids_agree, target, target_at, taken, changed, modify_by, modify_after}

pub by_31 : (f : BookFault) → number f ≡ 31 → f ≡ NotStanding
by_31 NotStanding h = refl
by_31 Standing h = absurd (omega arith)
by_31 Full h = absurd (omega arith)

pub by_32 : (f : BookFault) → number f ≡ 32 → f ≡ Standing
by_32 NotStanding h = absurd (omega arith)
by_32 Standing h = refl
by_32 Full h = absurd (omega arith)

pub by_33 : (f : BookFault) → number f ≡ 33 → f ≡ Full
by_33 NotStanding h = absurd (omega arith)
by_33 Standing h = absurd (omega arith)
by_33 Full h = refl

module _ {T : Type 0} where
  -- what a removed target leaves has not the new id, unless another order had it
  pub free_after : (p : Pair) (t i : OrderId) (l : List (Order T)) → (not (ids_agree t i) && stands p i l) ≡ false → stands p i (without p t l) ≡ false
  free_after p t i l h = (elim (ids_agree t i) as (λ b. ids_agree t i ≡ b → (not b && stands p i l) ≡ false → stands p i (without p t l) ≡ false) [
    | true ↦ λ e k. ap (λ j. stands p j (without p t l)) (sym (label_same 15 t i (bytes_same t.bytes i.bytes e))) ∙ without_gone p t l
    | false ↦ λ e k. stands_others p t i e l ∙ k
  ]) refl h

  module _ (F : venue.Form T) (l : List (Order T)) (x : Modify T) where
    pub modify_none : lookup x.pair (target x) l ≡ None → modify_after F l x ≡ Err (refusal NotStanding (target_at F x.replaced))
    unfolding modify_after
    modify_none h = ap (modify_by l x _) h

    pub modify_taken : (o : Order T) → lookup x.pair (target x) l ≡ Some o → taken l x ≡ true → modify_after F l x ≡ Err (refusal Standing 8)
    unfolding modify_after
    modify_taken o h t = ap (modify_by l x _) h ∙ cond-true (taken l x) _ _ t

    pub modify_done : (o : Order T) → lookup x.pair (target x) l ≡ Some o → taken l x ≡ false → modify_after F l x ≡ Ok (changed l x x.price o.side)
    unfolding modify_after
    modify_done o h t = ap (modify_by l x _) h ∙ cond-false (taken l x) _ _ t
