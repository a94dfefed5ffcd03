use Rattle.std.proofs.Common.{rules, ◌≡◌, List, ℕ, Ok, Err, Result, refl, ap, ◌∙◌}
use Rattle.std.specs.Result.{MatchResult}
use Rattle.std.proofs.lemmas.Result.{MatchResult-weaker}
use Rattle.fields.specs.Calls.{Reads}
use Rattle.fields.specs.Fields.{LabelField}
use Rattle.fields.specs.declared.fault.Fault.{Fault}
use Rattle.fields.specs.Values.{Label}
use Rattle.fields.specs.Tests.{labelled_decides}
use Rattle.venue.specs.Rows.{unknown, maker_given}
use Rattle.venue.specs.Remade.{maker_given_back, maker_fixed}
use Rattle.venue.proofs.rows.maker_of.Goals as goal

is_given : (r : Result (Label 16) Fault) (m : Label 16) (bs : List ℕ) → Reads (LabelField 16) (λ (v : Label 16). v.bytes) bs r → MatchResult r (λ x. m ≡ x) (λ _. m.bytes ≡ unknown) → m ≡ maker_given bs
is_given (Ok x) m bs read same = maker_given_back m bs (ap (λ v. v.bytes) same ∙ read.1)
is_given (Err e) m bs none fixed = maker_fixed m bs fixed (λ h. none.1 bs ((labelled_decides 16 bs).0 h, refl))

pub returns : goal.returns
returns c =
    let m = c.unwrap_or_else.result in
    is_given _ m _ c.read.ensures (MatchResult-weaker c.read.result {P' = λ x. m ≡ x} {Q' = λ _. m.bytes ≡ unknown} c.unwrap_or_else.ensures (λ x p. p) (λ e p. search rules))
