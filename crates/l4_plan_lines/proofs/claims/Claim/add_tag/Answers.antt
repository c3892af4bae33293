use Rattle.std.proofs.Common.{◌≡◌, ℕ, ◌<◌, ◌≤◌, ◌^◌, subst, arith, length, Option, Some, None, inl, inr}
use Rattle.std.proofs.lemmas.Bool.Decides.{nat_tests}
use Rattle.l4_plan_lines.specs.Claims.{IsClaim, IsTagLine}
use Rattle.l4_plan_lines.specs.declared.claims.Head.{Head}
use Rattle.l4_plan_lines.proofs.ClaimLemmas.{first_tag, no_first, no_tags, more_tag, no_tag, full_tags}
use Rattle.l4_plan_lines.proofs.claims.Claim.add_tag.Goals as goal

pub returns-then-is_full : goal.returns-then-is_full
returns-then-is_full c lines h =
    let s = c.args.self.now in
    let full : length s.tags.items ≡ 67 = grind (arith, nat_tests, c.if-is_full.ensures.value) in
    let many : 67 ≤ length s.tags.items = omega (arith, full) in
    elim c.requires [
      | inl a ↦ absurd (no_tags lines s.tags.items s.items.items s.pages.items (subst (λ (x : Option Head). IsClaim lines x s.tags.items s.items.items s.pages.items) a.0 h) many)
      | inr a ↦ absurd (full_tags lines s.tags.items s.items.items s.pages.items (subst (λ (x : Option Head). IsClaim lines x s.tags.items s.items.items s.pages.items) a.0 h) a.1 many)
    ]

pub returns-in-Some : goal.returns-in-Some
returns-in-Some c lines h =
    let s = c.args.self.now in
    let small : c.in-Some.tag < 2 ^ 32 = omega arith in
    let tag : IsTagLine c.args.line.now c.in-Some.tag = (small, c.in-Some.ensures.found) in
    rw (c.push.ensures.items) (elim c.requires [
      | inl a ↦ first_tag lines s.tags.items s.items.items s.pages.items c.args.line.now c.in-Some.tag (subst (λ (x : Option Head). IsClaim lines x s.tags.items s.items.items s.pages.items) a.0 h) tag
      | inr a ↦ more_tag lines s.tags.items s.items.items s.pages.items c.args.line.now c.in-Some.tag (subst (λ (x : Option Head). IsClaim lines x s.tags.items s.items.items s.pages.items) a.0 h) a.1 tag
    ])

pub returns-in-None : goal.returns-in-None
returns-in-None c lines h =
    let s = c.args.self.now in
    let never : (tag : ℕ) → IsTagLine c.args.line.now tag → ⊥ = λ tag t. let e : ◌≡◌ {A = Option ℕ} None (Some tag) = c.in-None.ensures.only tag t.0 t.1 in absurd (cc) in
    elim c.requires [
      | inl a ↦ no_first lines s.tags.items s.items.items s.pages.items c.args.line.now (subst (λ (x : Option Head). IsClaim lines x s.tags.items s.items.items s.pages.items) a.0 h) a.1 never
      | inr a ↦ no_tag lines s.tags.items s.items.items s.pages.items c.args.line.now (subst (λ (x : Option Head). IsClaim lines x s.tags.items s.items.items s.pages.items) a.0 h) a.1 never
    ]
