use Rattle.std.proofs.Common.{codes, refl, inl, inr, subst, Err}
use Rattle.l4_plan.specs.Refusals.{IfTooLong, IsOfRegion}
use Rattle.l4_plan.specs.declared.plans.PlanRefusal.{PlanRefusal}
use Rattle.l4_plan_lines.specs.Lines.{ended}
use Rattle.l4_plan.specs.Shortest.{IsTooLong}
use Rattle.l4_plan_lines.specs.Plans.{plan_text, too_long_text}
use Rattle.l4_plan_lines.proofs.planning.tell_plan.Goals as goal

pub returns-in-Ok : goal.returns-in-Ok
returns-in-Ok g c = (plan_text c.in-Ok.plan, (c.in-Ok.plan, c.in-Ok.ensures.shortest, refl), c.tell_items.ensures)

pub returns-in-Err-TooLong : goal.returns-in-Err-TooLong
returns-in-Err-TooLong g c =
    let r = c.args.region.now in
    let pages = c.in-Err-TooLong.pages in
    let long : IsTooLong c.args.size r pages = subst (λ (x : PlanRefusal). IfTooLong x (IsTooLong c.args.size r)) c.in-Err-TooLong.field-0-is c.in-Err-TooLong.ensures.too_long in
    (too_long_text pages, inr (inr (inr (pages, long, refl))), c.tell_pages.ensures)

pub returns-in-Err-Several : goal.returns-in-Err-Several
returns-in-Err-Several g c = absurd (subst IsOfRegion c.in-Err-Several.field-0-is c.in-Err-Several.ensures.others)

pub returns-in-Err-NoPart : goal.returns-in-Err-NoPart
returns-in-Err-NoPart g c = absurd (subst IsOfRegion c.in-Err-NoPart.field-0-is c.in-Err-NoPart.ensures.others)

pub returns-in-Err-Empty : goal.returns-in-Err-Empty
returns-in-Err-Empty g c =
    let h = c.in-Err-Empty.ensures.empty.0 (λ i. Err (c.in-Err-Empty.field-0-is i)) in
    (ended (codes "refused N1"), inl (h, refl), c.tell.ensures)

pub returns-in-Err-OutOfSpace : goal.returns-in-Err-OutOfSpace
returns-in-Err-OutOfSpace g c =
    let h = c.in-Err-OutOfSpace.ensures.out_of_space.0 (λ i. Err (c.in-Err-OutOfSpace.field-0-is i)) in
    (ended (codes "refused N2"), inr (inl (h.0, h.1, refl)), c.tell-in-Err-OutOfSpace.ensures)

pub returns-in-Err-NoRights : goal.returns-in-Err-NoRights
returns-in-Err-NoRights g c =
    let h = c.in-Err-NoRights.ensures.no_rights.0 (λ i. Err (c.in-Err-NoRights.field-0-is i)) in
    (ended (codes "refused N3"), inr (inr (inl (h.0, h.1, h.2, refl))), c.tell-in-Err-NoRights.ensures)
