use Rattle.std.proofs.Common.{length, sym, ap, ◌∙◌, arith}
use Rattle.l4_plan.proofs.Listed.{one_on, yields_first}
use Rattle.l4_plan.proofs.pages.PagesIterator.next.Goals as goal

pub invariant_of-self : goal.invariant_of-self
invariant_of-self c =
    let s = c.self.inside in
    one_on s.region s.page s.left c.largest_allowed.result c.self.invariant (omega arith) c.largest_allowed.ensures

pub returns-clause-steps : goal.returns-clause-steps
returns-clause-steps c =
    let s = c.self.inside in
    sym c.self.view_is ∙ yields_first s.region s.page s.left c.largest_allowed.result c.self.invariant.space (omega arith) c.largest_allowed.ensures

pub returns-clause-goes : goal.returns-clause-goes
returns-clause-goes c =
    let s = c.self.inside in
    let e = ap length (sym c.self.view_is ∙ yields_first s.region s.page s.left c.largest_allowed.result c.self.invariant.space (omega arith) c.largest_allowed.ensures) in
    record { on = λ h. (tt, tt, omega (arith, e)); keeps = tt; rests = λ h. tt }
