use Rattle.std.proofs.Common.{Option, ℕ, ◌+◌, subst, arith}
use Rattle.l4_links.specs.Inside.Growing.{WantsOne}
use Rattle.l4_links.proofs.Wanting.{wants_none, wants_one, wants_joined}
use Rattle.l4_links.proofs.wants.wants_run.Goals as goal

pub loop-step-init : goal.loop-step-init
loop-step-init c = record { row = wants_none 0 0 (omega arith) (λ n ge lt. absurd (omega (arith, lt))); few = omega arith; within = omega arith }

pub loop-step-preserved : goal.loop-step-preserved
loop-step-preserved c =
    let one = subst (λ (q : Option ℕ × Option ℕ). WantsOne c.args.of.now q.0 q.1 c.args.nodes.now.slots c.in_ok-one.one.slots c.in_ok-one.one.changes) (λ i. (c.at.ensures i, c.at-in-loop-step.ensures i)) c.in_ok-one.ensures in
    let row = wants_joined 0 c.loop-step.step (c.loop-step.step + 1) c.loop-step.slots c.in_ok-one.one.slots c.loop-step.changes c.in_ok-one.one.changes c.loop-step.invariant.row
    (wants_one c.loop-step.step c.in_ok-one.one.slots c.in_ok-one.one.changes (one.0, one.1) one.2 one.3 one.4) in
    let few = row.few in
    let lt = c.loop-step-test.true in
    record { row = row; few = omega (arith, few); within = omega (arith, lt) }
