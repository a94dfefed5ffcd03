use Rattle.std.proofs.Common.{refl}
use Rattle.std.proofs.lemmas.Bool.{false≢true}
use Rattle.digits.proofs.Fronts.{spaces_more, spaces_rest, spaces_end}
use Rattle.digits.proofs.runs.all_spaces.Goals as goal

pub returns-then-not-is_space : goal.returns-then-not-is_space
returns-then-not-is_space c =
    (λ e. absurd (false≢true e), λ h. c.if-not-is_space.ensures.1 (spaces_rest _ _ c.loop-b-test.true (c.loop-b.invariant.1 h)).0)

pub loop-b-preserved : goal.loop-b-preserved
loop-b-preserved c = (
  λ h. c.loop-b.invariant.0 (spaces_more _ _ c.loop-b-test.true (c.if-not-is_space.ensures.0 refl) h),
  λ h. (spaces_rest _ _ c.loop-b-test.true (c.loop-b.invariant.1 h)).1,
)

pub returns : goal.returns
returns c = (λ _. c.loop-b.invariant.0 (spaces_end _ _ c.loop-b-test.false), λ _. refl)
