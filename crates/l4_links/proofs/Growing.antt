-- A new key under a parent, and keys that go: the trees stay trees, and what leads where.
use Rattle.std.proofs.Common.{◌≡◌, ◌≢◌, ◌↔◌, ℕ, ◌<◌, ◌≤◌, ◌+◌, Option, Some, None, refl, sym, ap, ◌∙◌, subst, arith, inl, inr, ◌⊎◌, option_and_then}
use Rattle.std.proofs.lemmas.Bool.{cases_eq}
use Rattle.l4_links.specs.Leads.{Leads, step, steps}
use Rattle.l4_links.specs.Inside.Trees.{Limb, parent_at, IsTree, StandsAfter, Sprouts, Sheds, SameOrder}
use Rattle.l4_links.proofs.Runs.{below, same, above, order, has_limb}

-- what stands under a key of the old trees is one of them, and not the new key
old_key : (old new : ℕ → Option Limb) (p k : ℕ) (s : Sprouts old new p k) (a : ℕ) (x : Limb) → a ≢ k → new a ≡ Some x → old a ≡ Some x
old_key old new p k s a x ne is = sym (s.others a ne) ∙ is

not_new : (old new : ℕ → Option Limb) (p k : ℕ) (s : Sprouts old new p k) (a : ℕ) (x : Limb) → old a ≡ Some x → a ≢ k
not_new old new p k s a x is e = let w : ◌≡◌ {A = Option Limb} None (Some x) = sym s.vacant ∙ sym (ap old e) ∙ is in absurd (let z : ◌≡◌ {A = Option Limb} None (Some x) = w in cc)

-- the limb of the new key
new_limb : (old new : ℕ → Option Limb) (p k : ℕ) (s : Sprouts old new p k) (a : ℕ) (x : Limb) → a ≡ k → new a ≡ Some x → x ≡ record { parent = Some p; depth = s.above.depth + 1 }
new_limb old new p k s a x e is =
    let w : ◌≡◌ {A = Option Limb} (Some x) (Some (record { parent = Some p; depth = s.above.depth + 1 })) = sym is ∙ ap new e ∙ s.filled in cc

-- how the places of two keys are ordered afterwards
pub tree_sprouts : (old new : ℕ → Option Limb) (pos later : ℕ → ℕ) (p k : ℕ) → IsTree old pos → Sprouts old new p k → StandsAfter old pos later p k → IsTree new later
tree_sprouts old new pos later p k t s m =
    let moved : (a : ℕ) (x : Limb) → old a ≡ Some x → ((pos a ≤ pos p) × (later a ≡ pos a)) ⊎ ((pos p < pos a) × (later a ≡ pos a + 1)) =
    λ a x is. elim (order (pos a) (pos p)) [
      | below lt ↦ let le : pos a ≤ pos p = omega (arith, lt) in inl (le, m.low a x is le)
      | same eq ↦ let le : pos a ≤ pos p = omega (arith, eq) in inl (le, m.low a x is le)
      | above gt ↦ inr (gt, m.high a x is gt)
    ] in
    let here = m.here in
    let parent_low : later p ≡ pos p = m.low p s.above s.at_parent (omega arith) in
    record {
      apart = λ a b x y is_a is_b eq. grind arith;
      top = λ a x is none. grind arith;
      under = λ a q x is up. elim (cases_eq a k) [
        | inl ak ↦
            let lx = new_limb old new p k s a x ak is in
            let e : ◌≡◌ {A = Option ℕ} (Some q) (Some p) = sym up ∙ ap (λ (z : Limb). z.parent) lx in
            let qp : q ≡ p = cc in
            let pk = not_new old new p k s p s.above s.at_parent in
            let lq : later q ≡ later p = ap later qp in
            let la : later a ≡ later k = ap later ak in
            grind arith
        | inr na ↦
            let ia = old_key old new p k s a x na is in
            let u = t.under a q x ia up in
            let qk = not_new old new p k s q u.above u.at_parent in
            let ua = u.after in
            let mq = moved q u.above u.at_parent in
            let ma = moved a x ia in
            grind arith
      ];
    }

-- keys that have gone leave trees
pub tree_sheds : (old new : ℕ → Option Limb) (pos later : ℕ → ℕ) → IsTree old pos → Sheds old new → SameOrder new pos later → IsTree new later
tree_sheds old new pos later t s o =
    let was : (a : ℕ) (x : Limb) → new a ≡ Some x → old a ≡ Some x =
    λ a x is. elim (s.left a) [ inl none ↦ absurd (let w : ◌≡◌ {A = Option Limb} None (Some x) = sym none ∙ is in cc) | inr e ↦ sym e ∙ is ] in
    record {
      apart = λ a b x y is_a is_b eq. grind arith;
      top = λ a x is none. t.top a x (was a x is) none;
      under = λ a p x is up.
          let u = t.under a p x (was a x is) up in
          let ip : new p ≡ Some u.above = s.closed a p x is up ∙ u.at_parent in
          grind arith;
    }

-- what leads where below a new key: it is nobody's parent
pub leads_before : (old new : ℕ → Option Limb) (pos : ℕ → ℕ) (p k : ℕ) → IsTree old pos → (s : Sprouts old new p k) → {low high : ℕ} → low ≢ k → Leads (parent_at new) low high → Leads (parent_at old) low high
leads_before old new pos p k t s {low} {high} ne (step up) = step (sym (ap (option_and_then (λ (x : Limb). x.parent)) (s.others low ne)) ∙ up)
leads_before old new pos p k t s {low} ne (steps {middle = m} up rest) =
    let was : parent_at old low ≡ Some m = sym (ap (option_and_then (λ (x : Limb). x.parent)) (s.others low ne)) ∙ up in
    let h = has_limb old low m was in
    let u = t.under low m h.limb h.is h.up in
    steps was (leads_before old new pos p k t s (not_new old new p k s m u.above u.at_parent) rest)

pub leads_after : (old new : ℕ → Option Limb) (p k : ℕ) → (s : Sprouts old new p k) → {low high : ℕ} → Leads (parent_at old) low high → Leads (parent_at new) low high
leads_after old new p k s {low} {high} (step up) =
    let h = has_limb old low high up in
    step (ap (option_and_then (λ (x : Limb). x.parent)) (s.others low (not_new old new p k s low h.limb h.is)) ∙ up)
leads_after old new p k s {low} (steps {middle = m} up rest) =
    let h = has_limb old low m up in
    steps (ap (option_and_then (λ (x : Limb). x.parent)) (s.others low (not_new old new p k s low h.limb h.is)) ∙ up) (leads_after old new p k s rest)

-- a key other than the new one leads where it led
pub leads_same : (old new : ℕ → Option Limb) (pos : ℕ → ℕ) (p k : ℕ) → IsTree old pos → (s : Sprouts old new p k) → (low high : ℕ) → low ≢ k → Leads (parent_at new) low high ↔ Leads (parent_at old) low high
leads_same old new pos p k t s low high ne = (λ l. leads_before old new pos p k t s ne l, λ l. leads_after old new p k s l)

-- the new key leads to its parent, and where that leads
pub leads_from_new : (old new : ℕ → Option Limb) (pos : ℕ → ℕ) (p k : ℕ) → IsTree old pos → (s : Sprouts old new p k) → (high : ℕ) → Leads (parent_at new) k high ↔ ((high ≡ p) ⊎ Leads (parent_at old) p high)
leads_from_new old new pos p k t s high =
    let up : parent_at new k ≡ Some p = ap (option_and_then (λ (x : Limb). x.parent)) s.filled in
    let pk = not_new old new p k s p s.above s.at_parent in (
      λ l. from_new old new pos p k t s refl up pk l,
      λ c. elim c [
        | inl e ↦ step (up ∙ ap (λ (x : ℕ). Some x) (sym e))
        | inr l ↦ steps up (leads_after old new p k s l)
      ],
    )
  where
    from_new : (old new : ℕ → Option Limb) (pos : ℕ → ℕ) (p k : ℕ) → IsTree old pos → (s : Sprouts old new p k) → {low high : ℕ} → low ≡ k → parent_at new k ≡ Some p → p ≢ k → Leads (parent_at new) low high → (high ≡ p) ⊎ Leads (parent_at old) p high
    from_new old new pos p k t s {low} {high} e up pk (step is) = inl (let w : ◌≡◌ {A = Option ℕ} (Some high) (Some p) = sym is ∙ ap (parent_at new) e ∙ up in cc)
    from_new old new pos p k t s {low} {high} e up pk (steps {middle = m} is rest) =
        let w : ◌≡◌ {A = Option ℕ} (Some m) (Some p) = sym is ∙ ap (parent_at new) e ∙ up in
        let mp : m ≡ p = cc in
        inr (leads_before old new pos p k t s pk (subst (λ (x : ℕ). Leads (parent_at new) x high) mp rest))
