use Rattle.std.proofs.Common.{◌≡◌, ℕ, ◌<◌, ◌^◌, subst, arith, length, Option, Some, None}
use Rattle.std.proofs.lemmas.Bool.Decides.{nat_tests}
use Rattle.l4_plan_lines.specs.Claims.{IsClaim}
use Rattle.l4_plan_lines.specs.declared.claims.Head.{Head}
use Rattle.l4_plan_lines.proofs.ClaimLemmas.{more_pages, no_page, full_pages}
use Rattle.l4_plan_lines.proofs.claims.Claim.add_page.Goals as goal

pub returns-then-is_full : goal.returns-then-is_full
returns-then-is_full c lines h =
    let s = c.args.self.now in
    let full : length s.pages.items ≡ 2048 = grind (arith, nat_tests, c.if-is_full.ensures.value) in
    full_pages lines s.tags.items s.items.items s.pages.items c.args.line.now (subst (λ (x : Option Head). IsClaim lines x s.tags.items s.items.items s.pages.items) c.requires h) (omega arith)

pub returns-in-Some : goal.returns-in-Some
returns-in-Some c lines h =
    let s = c.args.self.now in
    let room : length s.pages.items < 2048 = grind (arith, nat_tests, c.if-is_full.ensures.value, c.if-is_full.ensures.fits) in
    let small : c.in-Some.page < 2 ^ 32 = omega arith in
    rw (c.requires, c.push.ensures.items)
    (more_pages lines s.tags.items s.items.items s.pages.items c.args.line.now c.in-Some.page (subst (λ (x : Option Head). IsClaim lines x s.tags.items s.items.items s.pages.items) c.requires h) (small, c.in-Some.ensures.found) room)

pub returns-in-None : goal.returns-in-None
returns-in-None c lines h =
    let s = c.args.self.now in
    no_page lines s.tags.items s.items.items s.pages.items c.args.line.now (subst (λ (x : Option Head). IsClaim lines x s.tags.items s.items.items s.pages.items) c.requires h)
    (λ page p. let e : ◌≡◌ {A = Option ℕ} None (Some page) = c.in-None.ensures.only page p.0 p.1 in absurd (cc))
