-- The repricing of an order, from what the book's calls answer.
use Rattle.std.proofs.Common.{◌≡◌, ℕ, ◌≤◌, false, cond, List, length, is_some, Some, None, Option, Ok, Err, Result, sym, refl, ap, ◌∙◌, subst, ap₂, arith}
use Rattle.std.specs.Option.{ok_or}
use Rattle.fields.specs.Values.{Pair, Price}
use Rattle.book.specs.Ladder.{OrderId, named, stands, lookup, placed, without}
use Rattle.book.specs.Calls.{number, Place, Remove}
use Rattle.quotes.specs.Quotes.{repriced, Reprice}
use Rattle.book.specs.declared.ladder.BookFault.{BookFault}
use Rattle.book.specs.declared.ladder.BookFault.TheVariants.{NotStanding}
use Rattle.book.specs.declared.order.Order.{Order}
use Rattle.book.specs.Orderly.{named_one}
use Rattle.book.specs.Ladders.{without_gone, without_shorter}
use Rattle.book.specs.Lookups.{lookup_none, lookup_named, lookup_stands, lookup_placed, not_refused}

module _ {T : Type 0} where
  pub replaced : (n : ℕ) (l : List (Order T)) (p : Pair) (i : OrderId) (c : Price) (x : Order T) (m : List (Order T)) (r : Result (Unit {0}) BookFault) (l' : List (Order T)) → length l ≤ n → lookup p i l ≡ Some x → m ≡ without p i l → Place n m (repriced c x) r l' → Reprice l p i c r l'
  replaced n l p i c x m (Ok u) l' few found gone put = (x, found, put.2 ∙ ap (placed (repriced c x)) gone)
  replaced n l p i c x m (Err e) l' few found gone put =
      let one = named_one p i x (lookup_named p i l x found) in
      let free : stands x.pair x.id m ≡ false = ap₂ (λ q j. stands q j m) one.0 one.1 ∙ ap (stands p i) gone ∙ without_gone p i l in
      let short = without_shorter p i l (lookup_stands p i l ∙ ap is_some found) in
      absurd (not_refused n m (repriced c x) (number e) put.0 free (omega (arith, ap length gone)))

  -- what a look-up says where its answer is handed on by `ok_or` and `?`
  pub standing_is : (o : Option (Order T)) (x : Order T) → Ok x ≡ ok_or o NotStanding → o ≡ Some x
  standing_is None x e = absurd (cc)
  standing_is (Some y) x e = let same : y ≡ x = cc in ap Some same

  pub not_found : (l : List (Order T)) (p : Pair) (i : OrderId) (c : Price) (o : Option (Order T)) (r : Result (Unit {0}) BookFault) (y e : BookFault) → r ≡ Err y → y ≡ e → Err e ≡ ok_or o NotStanding → o ≡ lookup p i l → Reprice l p i c r l
  not_found l p i c None r y e a b d h = let same : y ≡ NotStanding = cc in subst (λ z. Reprice l p i c z l) (sym (a ∙ ap Err same)) (refl, sym h, refl)
  not_found l p i c (Some x) r y e a b d h = absurd (cc)

  -- a refusal of remove, handed on
  pub not_removed : (l : List (Order T)) (p : Pair) (i : OrderId) (c : Price) (r : Result (Unit {0}) BookFault) (y e : BookFault) (l' : List (Order T)) → r ≡ Err y → y ≡ e → Remove l p i (Err e) l' → Reprice l p i c r l'
  not_removed l p i c r y e l' a b h = subst (λ z. Reprice l p i c z l') (sym (a ∙ ap Err b)) (h.0, lookup_none p i l h.1, h.2)

  named_repriced : (p : Pair) (i : OrderId) (c : Price) (x : Order T) → named p i (repriced c x) ≡ named p i x
  unfolding named
  named_repriced p i c x = refl

  -- an order that is placed again is found again
  pub lookup_repriced : (p : Pair) (i : OrderId) (c : Price) (x : Order T) (l : List (Order T)) → lookup p i l ≡ Some x → lookup p i (placed (repriced c x) (without p i l)) ≡ Some (repriced c x)
  lookup_repriced p i c x l found =
      let n = lookup_named p i l x found in
      let one = named_one p i x n in
      let free : stands x.pair x.id (without p i l) ≡ false = ap₂ (λ q j. stands q j (without p i l)) one.0 one.1 ∙ without_gone p i l in
      lookup_placed p i (repriced c x) (without p i l) free ∙ ap (λ b. cond b (Some (repriced c x)) (lookup p i (without p i l))) (named_repriced p i c x ∙ n)
