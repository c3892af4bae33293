use Rattle.std.proofs.Common.{◌≡◌, ◌+◌, ◌*◌, ◌∙◌, ap, subst, arith, length, Option, Some}
use Rattle.std.proofs.lemmas.Bool.Decides.{nat_tests}
use Rattle.l4_plan_lines.specs.Claims.{IsClaim}
use Rattle.l4_plan_lines.specs.declared.claims.Head.{Head}
use Rattle.l4_plan_lines.proofs.ClaimLemmas.{ends_in_tag, ends_in_item, ends_in_page}
use Rattle.l4_plan_lines.proofs.claims.Claim.has_empty_group.Goals as goal

pub returns-then-len : goal.returns-then-len
returns-then-len c lines h =
    let s = c.args.self.now in
    let e : length s.items.items + 31 ≡ 31 * length s.tags.items = grind (arith, nat_tests, c.if-len.true, c.len.ensures.value, c.len-in-Plan.ensures.value) in
    ends_in_tag lines s.tags.items s.items.items s.pages.items (subst (λ (x : Option Head). IsClaim lines x s.tags.items s.items.items s.pages.items) (c.in-Some.is ∙ ap Some c.in-Plan.is) h) e

pub returns-else-len : goal.returns-else-len
returns-else-len c lines h =
    let s = c.args.self.now in
    ends_in_item lines s.tags.items s.items.items s.pages.items (subst (λ (x : Option Head). IsClaim lines x s.tags.items s.items.items s.pages.items) (c.in-Some.is ∙ ap Some c.in-Plan.is) h)
    (λ (e : length s.items.items + 31 ≡ 31 * length s.tags.items). grind (arith, nat_tests, c.if-len.false, c.len.ensures.value, c.len-in-Plan.ensures.value))

pub returns-in-TooLong : goal.returns-in-TooLong
returns-in-TooLong c lines h =
    let s = c.args.self.now in
    ends_in_page lines s.tags.items s.items.items s.pages.items (subst (λ (x : Option Head). IsClaim lines x s.tags.items s.items.items s.pages.items) (c.in-Some.is ∙ ap Some c.in-TooLong.is) h)
