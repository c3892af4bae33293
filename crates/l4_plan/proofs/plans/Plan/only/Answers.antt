use Rattle.std.proofs.Common.{◌≤◌, ◌∙◌, length, arith}
use Rattle.l4_plan.proofs.Listed.{only_part}
use Rattle.l4_plan.proofs.plans.Plan.only.Goals as goal

pub returns-clause-sends : goal.returns-clause-sends
returns-clause-sends c =
    let s = c.part.ensures.sends in
    let few : length c.args.self.now.items ≤ 31 = omega (arith, c.messages-messages.ensures.value, c.if-messages-gt1.false) in
    record { label = s.label; untyped = s.untyped; items_are = s.items_are ∙ only_part c.args.self.now.items few }
