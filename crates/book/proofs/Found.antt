-- What a look-up by pair and id says where its answer is handed on by `ok_or` and `?`.
use Rattle.std.proofs.Common.{◌≡◌, ℕ, true, false, List, Some, None, Ok, Err, Option, MatchOption, sym, ◌∙◌, subst, refl}
use Rattle.std.specs.Option.{ok_or}
use Rattle.fields.specs.Values.{Pair}
use Rattle.book.specs.Ladder.{OrderId, named, stands, apart, at_rank, lookup}
use Rattle.book.specs.Calls.{number, Finds}
use Rattle.book.specs.Ladders.{finds_stands}
use Rattle.book.specs.Lookups.{lookup_none, lookup_rank}
use Rattle.book.specs.declared.order.Order.{Order}
use Rattle.book.specs.declared.ladder.BookFault.{BookFault}
use Rattle.book.specs.declared.ladder.BookFault.TheVariants.{NotStanding}

module _ {T : Type 0} (p : Pair) (i : OrderId) (l : List (Order T)) where
  pub at_its_rank : (r : Option ℕ) (k : ℕ) → Finds (named p i) l r → ok_or r NotStanding ≡ Ok k → Finds (named p i) l (Some k)
  at_its_rank None k f e = absurd (cc)
  at_its_rank (Some j) k f e = let same : j ≡ k = cc in subst (λ z. Finds (named p i) l (Some z)) same f

  pub not_standing : (r : Option ℕ) (e : BookFault) → Finds (named p i) l r → ok_or r NotStanding ≡ Err e → (number e ≡ 31) × (stands p i l ≡ false)
  not_standing None e f h = let same : NotStanding ≡ e = cc in (subst (λ z. number z ≡ 31) same refl, finds_stands p i l None f)
  not_standing (Some k) e f h = absurd (cc)

  -- the order at the rank that is found is the one of the pair and id
  pub looked_up : apart l ≡ true → (r : Option ℕ) (o : Option (Order T)) (P : ℕ → Type 0) → ((k : ℕ) → P k → o ≡ at_rank l k) → Finds (named p i) l r → MatchOption r (o ≡ None) P → o ≡ lookup p i l
  looked_up a None o P h f m = m ∙ sym (lookup_none p i l (finds_stands p i l None f))
  looked_up a (Some k) o P h f m = h k m ∙ sym (lookup_rank p i l k a f.0 f.1)
