-- What is written of the plan of a region is one text.
use Rattle.std.proofs.Common.{◌≡◌, ℕ, inl, inr, refl, sym, ap, ◌∙◌, subst, arith, Bool, true, false, List}
use Rattle.l4_msg.specs.Regions.{InSpace, IsOutOfSpace, IsSound, IsPlan}
use Rattle.l4_msg.specs.declared.regions.Region.{Region}
use Rattle.l4_plan.specs.Plan.{Listing}
use Rattle.l4_plan_lines.proofs.LargestBlocks.{same_starts}
use Rattle.l4_plan_lines.proofs.SamePlans.{same_items}
use Rattle.l4_plan.specs.Shortest.{IsShortest, IsTooLong}
use Rattle.l4_plan_lines.specs.Plans.{IsPlanText, plan_text, too_long_text}
use Rattle.l4_fpage.specs.declared.sizes.PageSize.{PageSize}

same_pages : (size : PageSize) → (r : Region) (p q : Listing) → IsShortest size r p → IsShortest size r q → p.pages ≡ q.pages
same_pages size r p q a b =
    let le = a.shortest q.items b.plan.rival in
    let ge = b.shortest p.items a.plan.rival in
    same_starts r p.pages q.pages a.starts b.starts (omega (arith, le, ge, a.one_each, b.one_each))

same_plan : (size : PageSize) → (r : Region) (p q : Listing) → InSpace size r → IsShortest size r p → IsShortest size r q → plan_text p ≡ plan_text q
same_plan size r p q space a b =
    let pages : p.pages ≡ q.pages = same_pages size r p q a b in
    let again : IsPlan size r p.items q.pages = subst (λ (x : List ℕ). IsPlan size r p.items x) pages a.plan in
    let items : p.items ≡ q.items = same_items size r p.items q.items q.pages space again b.plan in
    λ i. plan_text (record { items = items i; pages = pages i })

same_long : (size : PageSize) → (r : Region) (xs ys : List ℕ) → IsTooLong size r xs → IsTooLong size r ys → xs ≡ ys
same_long size r xs ys a b = same_starts r xs ys a.starts b.starts (a.many ∙ sym b.many)

out_of : (size : PageSize) → (r : Region) → InSpace size r → IsOutOfSpace size r → ⊥
out_of size r space out = elim out [ inl h ↦ omega (arith, space.source) | inr h ↦ omega (arith, space.target) ]

pub refused_once : (size : PageSize) → (r : Region) (s t : List ℕ) → IsPlanText size r false s → IsPlanText size r false t → s ≡ t
refused_once size r s t a b =
    elim a [
      | inl x ↦ elim b [
        | inl y ↦ x.1 ∙ sym y.1
        | inr y ↦ absurd (elim y [ inl z ↦ omega (arith, x.0, z.0) | inr z ↦ elim z [ inl w ↦ omega (arith, x.0, w.0) | inr w ↦ omega (arith, x.0, w.1.sound.some) ] ])
      ]
      | inr x ↦ elim x [
        | inl c ↦ elim b [
          | inl y ↦ absurd (omega (arith, y.0, c.0))
          | inr y ↦ elim y [
            | inl z ↦ c.2 ∙ sym z.2
            | inr z ↦ absurd (elim z [ inl w ↦ out_of size r w.1 c.1 | inr w ↦ out_of size r w.1.sound.space c.1 ])
          ]
        ]
        | inr d ↦ elim d [
          | inl c ↦ elim b [
            | inl y ↦ absurd (omega (arith, y.0, c.0))
            | inr y ↦ elim y [
              | inl z ↦ absurd (out_of size r c.1 z.1)
              | inr z ↦ elim z [ inl w ↦ c.3 ∙ sym w.3 | inr w ↦ absurd (w.1.sound.rights c.2) ]
            ]
          ]
          | inr c ↦ elim b [
            | inl y ↦ absurd (omega (arith, y.0, c.1.sound.some))
            | inr y ↦ elim y [
              | inl z ↦ absurd (out_of size r c.1.sound.space z.1)
              | inr z ↦ elim z [
                | inl w ↦ absurd (c.1.sound.rights w.2)
                | inr w ↦ c.2 ∙ ap too_long_text (same_long size r c.0 w.0 c.1 w.1) ∙ sym w.2
              ]
            ]
          ]
        ]
      ]
    ]

pub planned_once : (size : PageSize) → (r : Region) (s t : List ℕ) → InSpace size r → IsPlanText size r true s → IsPlanText size r true t → s ≡ t
planned_once size r s t space a b = a.2 ∙ same_plan size r a.0 b.0 space a.1 b.1 ∙ sym b.2

-- a sound region with a plan is not refused
plan_or_none : (size : PageSize) → (r : Region) (s t : List ℕ) → IsSound size r → IsPlanText size r true s → IsPlanText size r false t → ⊥
plan_or_none size r s t sound a b =
    elim b [
      | inl y ↦ omega (arith, y.0, sound.some)
      | inr y ↦ elim y [
        | inl z ↦ out_of size r sound.space z.1
        | inr z ↦ elim z [
          | inl w ↦ sound.rights w.2
          | inr w ↦ let more = w.1.none a.0.items a.1.plan.rival in omega (arith, more, a.1.few)
        ]
      ]
    ]

pub one_plan_text : (size : PageSize) → (r : Region) (a b : Bool) (s t : List ℕ) → IsPlanText size r a s → IsPlanText size r b t → (a ≡ b) × (s ≡ t)
one_plan_text size r true true s t x y = (refl, planned_once size r s t x.1.sound.space x y)
one_plan_text size r true false s t x y = absurd (plan_or_none size r s t x.1.sound x y)
one_plan_text size r false true s t x y = absurd (plan_or_none size r t s y.1.sound y x)
one_plan_text size r false false s t x y = (refl, refused_once size r s t x y)
