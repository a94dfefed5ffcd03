use Rattle.std.proofs.Common.{◌≡◌, ℕ, Some, None, Option, ap, ◌∙◌}
use Rattle.std.specs.Option.{MatchOption}
use Rattle.fields.specs.Ranges.{QuantityCount}
use Rattle.fields.specs.Calls.{Makes}
use Rattle.fields.specs.Values.{Quantity}
use Rattle.venue.specs.Rows.{quantity_given}
use Rattle.venue.specs.Remade.{quantity_given_back, quantity_fixed}
use Rattle.venue.proofs.rows.quantity_of.Goals as goal

is_given : (o : Option Quantity) (q : Quantity) (n : ℕ) → Makes QuantityCount (λ v. v.count) n o → MatchOption o (q.count ≡ 0) (λ x. q ≡ x) → q ≡ quantity_given n
is_given None q n none fixed = quantity_fixed q n fixed none
is_given (Some x) q n made same = quantity_given_back q n (ap (λ v. v.count) same ∙ made)

pub returns : goal.returns
returns c = is_given _ _ _ c.from_count.ensures c.unwrap_or_else.ensures
