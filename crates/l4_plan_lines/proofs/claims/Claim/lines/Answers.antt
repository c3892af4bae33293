use Rattle.std.proofs.Common.{◌∙◌, ap, subst, arith, Option, Some}
use Rattle.l4_plan_lines.specs.Claims.{IsClaim}
use Rattle.l4_plan_lines.specs.declared.claims.Head.{Head}
use Rattle.l4_plan_lines.proofs.ClaimLemmas.{plan_lines, long_lines}
use Rattle.l4_plan_lines.proofs.claims.Claim.lines.Goals as goal

pub returns-in-Plan-clause-count : goal.returns-in-Plan-clause-count
returns-in-Plan-clause-count c lines h =
    let s = c.args.self.now in
    let n = plan_lines lines s.tags.items s.items.items s.pages.items (subst (λ (x : Option Head). IsClaim lines x s.tags.items s.items.items s.pages.items) (c.in-Some.is ∙ ap Some c.in-Plan.is) h) in
    omega (arith, n, c.len.ensures.value, c.len-in-Plan.ensures.value)

pub returns-in-TooLong-clause-count : goal.returns-in-TooLong-clause-count
returns-in-TooLong-clause-count c lines h =
    let s = c.args.self.now in
    let n = long_lines lines s.tags.items s.items.items s.pages.items (subst (λ (x : Option Head). IsClaim lines x s.tags.items s.items.items s.pages.items) (c.in-Some.is ∙ ap Some c.in-TooLong.is) h) in
    omega (arith, n, c.len-in-TooLong.ensures.value)
