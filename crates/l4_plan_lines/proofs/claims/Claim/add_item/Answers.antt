use Rattle.std.proofs.Common.{◌≡◌, ◌<◌, subst, arith, length, Option, inl, inr}
use Rattle.std.proofs.lemmas.Bool.Decides.{nat_tests}
use Rattle.l4_plan_lines.specs.Claims.{IsClaim}
use Rattle.l4_plan_lines.specs.declared.claims.Head.{Head}
use Rattle.l4_plan_lines.proofs.ClaimLemmas.{more_items, no_item, full_items}
use Rattle.l4_plan_lines.proofs.claims.Claim.add_item.Goals as goal

pub returns-then-is_full : goal.returns-then-is_full
returns-then-is_full c lines h =
    let s = c.args.self.now in
    let full : length s.items.items ≡ 2048 = grind (arith, nat_tests, c.if-is_full.ensures.value) in
    full_items lines s.tags.items s.items.items s.pages.items c.args.line.now (subst (λ (x : Option Head). IsClaim lines x s.tags.items s.items.items s.pages.items) c.requires.0 h) c.requires.1 (inl (omega arith))

pub returns-then-is_full-2 : goal.returns-then-is_full-2
returns-then-is_full-2 c lines h =
    let s = c.args.self.now in
    let full : length s.pages.items ≡ 2048 = grind (arith, nat_tests, c.if-is_full-2.ensures.value) in
    full_items lines s.tags.items s.items.items s.pages.items c.args.line.now (subst (λ (x : Option Head). IsClaim lines x s.tags.items s.items.items s.pages.items) c.requires.0 h) c.requires.1 (inr (omega arith))

pub returns-in-Some : goal.returns-in-Some
returns-in-Some c lines h =
    let s = c.args.self.now in
    let room : length s.pages.items < 2048 = grind (arith, nat_tests, c.if-is_full-2.ensures.value, c.if-is_full-2.ensures.fits) in
    rw (c.requires.0, c.push.ensures.items, c.push-in-Some.ensures.items)
    (more_items lines s.tags.items s.items.items s.pages.items c.args.line.now c.in-Some.item c.in-Some.page (subst (λ (x : Option Head). IsClaim lines x s.tags.items s.items.items s.pages.items) c.requires.0 h) c.requires.1 c.in-Some.ensures room)

pub returns-in-None : goal.returns-in-None
returns-in-None c lines h =
    let s = c.args.self.now in
    no_item lines s.tags.items s.items.items s.pages.items c.args.line.now (subst (λ (x : Option Head). IsClaim lines x s.tags.items s.items.items s.pages.items) c.requires.0 h) c.requires.1 c.in-None.ensures
