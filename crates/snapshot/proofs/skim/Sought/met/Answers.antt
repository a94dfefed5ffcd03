use Rattle.std.proofs.Common.{◌≡◌, ◌-◌, ◌+◌, ◌^◌, ◌≤◌, sym, ap, ◌∙◌, arith, rules}
use Rattle.snapshot.specs.Skims.{strided}
use Rattle.snapshot.proofs.Skims.{strided_here, strided_next, strided_done, strided_past}
use Rattle.snapshot.proofs.skim.Sought.met.Goals as goal

pub returns-then-at-self : goal.returns-then-at-self
returns-then-at-self c =
    sym (c.loop.invariant ∙ strided_past c.args.self.now.m.now c.args.self.now.upto c.args.self.now.id.now c.args.step (c.args.n - c.loop.counter) c.loop.at c.if-at-self.true)

pub returns-then-is_at : goal.returns-then-is_at
returns-then-is_at c =
    sym (c.loop.invariant ∙ strided_here c.args.self.now.m.now c.args.self.now.upto c.args.self.now.id.now c.args.step c.loop.at c.is_at.result c.is_at.ensures (c.args.n - c.loop.counter) (omega (arith, c.loop-test.true)) c.if-at-self.false c.if-is_at.true)

pub loop-init : goal.loop-init
loop-init c = search rules

pub loop-preserved : goal.loop-preserved
loop-preserved c =
    let small : c.args.self.now.upto ≤ 2 ^ 64 - 1 = search rules in
    let fewer : c.args.n - c.loop.counter - 1 ≡ c.args.n - (c.loop.counter + 1) = omega arith in
    c.loop.invariant ∙ strided_next c.args.self.now.m.now c.args.self.now.upto c.args.self.now.id.now c.args.step c.loop.at c.is_at.result c.is_at.ensures (c.args.n - c.loop.counter) c.saturating_add-at.result (omega (arith, c.loop-test.true)) c.if-is_at.false small c.saturating_add-at.ensures
    ∙ ap (λ k. strided c.args.self.now.m.now c.args.self.now.upto c.args.self.now.id.now c.args.step k c.saturating_add-at.result) fewer

pub returns : goal.returns
returns c = sym (c.loop.invariant ∙ strided_done c.args.self.now.m.now c.args.self.now.upto c.args.self.now.id.now c.args.step (c.args.n - c.loop.counter) c.loop.at (omega (arith, c.loop-test.false)))
