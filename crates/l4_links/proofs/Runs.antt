-- A key's descendants are the run of deeper keys straight after it.
use Rattle.std.proofs.Common.{◌≡◌, ◌↔◌, ℕ, suc, zero, ◌<◌, ◌≤◌, Option, Some, None, refl, sym, ap, ◌∙◌, arith, option_and_then}
use Rattle.l4_links.specs.Leads.{Leads, step, steps}
use Rattle.l4_links.specs.Inside.Trees.{Limb, parent_at, IsTree, IsInRun}

-- numbers are in one of three orders
pub data Order (a b : ℕ) : Type 0 where
  below : a < b → Order a b
  same : a ≡ b → Order a b
  above : b < a → Order a b

pub order : (a b : ℕ) → Order a b
order a b = grind arith

-- one key has one limb
pub one_limb : (at : ℕ → Option Limb) (a : ℕ) {x y : Limb} → at a ≡ Some x → at a ≡ Some y → x ≡ y
one_limb at a {x} {y} p q = let k : ◌≡◌ {A = Option Limb} (Some x) (Some y) = sym p ∙ q in cc

-- a key with a parent has a limb
pub record HasLimb (at : ℕ → Option Limb) (a p : ℕ) : Type 0 where
  pub limb : Limb
  pub is : at a ≡ Some limb
  pub up : limb.parent ≡ Some p

pub has_limb : (at : ℕ → Option Limb) (a p : ℕ) → parent_at at a ≡ Some p → HasLimb at a p
has_limb at a p up = grind arith

pub parent_is : (at : ℕ → Option Limb) (a : ℕ) (x : Limb) → at a ≡ Some x → parent_at at a ≡ x.parent
parent_is at a x is = ap (option_and_then (λ (m : Limb). m.parent)) is

-- what leads to a key is of its run
pub run_from_leads : (at : ℕ → Option Limb) (pos : ℕ → ℕ) → IsTree at pos → {low high : ℕ} → Leads (parent_at at) low high → IsInRun at pos high low
run_from_leads at pos t {low} {high} (step up) =
    let h = has_limb at low high up in
    let u = t.under low high h.limb h.is h.up in
    grind arith
run_from_leads at pos t {low} {high} (steps {middle = m} up rest) =
    let h = has_limb at low m up in
    let u = t.under low m h.limb h.is h.up in
    let r = run_from_leads at pos t rest in
    let e : u.above ≡ r.limb = one_limb at m u.at_parent r.at_limb in
    let ed : u.above.depth ≡ r.limb.depth = ap (λ (x : Limb). x.depth) e in
    let ud = u.deeper in
    let ua = u.after in
    let rd = r.deeper in
    let ra = r.after in
    grind arith

-- a key of the run leads to its top
leads_within : (at : ℕ → Option Limb) (pos : ℕ → ℕ) → IsTree at pos → (n high low : ℕ) (r : IsInRun at pos high low) → r.limb.depth ≤ n → Leads (parent_at at) low high
leads_within at pos t zero high low r le = absurd (let d = r.deeper in omega (arith, d, le))
leads_within at pos t (suc n) high low r le =
    elim (r.limb.parent) as (λ o. r.limb.parent ≡ o → Leads (parent_at at) low high) [
      | None ↦ λ e. absurd (let z = t.top low r.limb r.at_limb e in let d = r.deeper in omega (arith, z, d))
      | Some p ↦ λ e.
          let u = t.under low p r.limb r.at_limb e in
          let up : parent_at at low ≡ Some p = parent_is at low r.limb r.at_limb ∙ e in
          let ud = u.deeper in
          let ua = u.after in
          elim (order (pos p) (pos high)) [
            | below lt ↦ grind arith
            | same eq ↦
                let pe : p ≡ high = t.apart p high u.above r.top u.at_parent r.at_top eq in
                step (up ∙ ap (λ (x : ℕ). Some x) pe)
            | above gt ↦
                let d = r.between p u.above u.at_parent gt ua in
                let higher : IsInRun at pos high p = grind arith in
                steps up (leads_within at pos t n high p higher (omega (arith, ud, le)))
          ]
    ] refl

pub leads_from_run : (at : ℕ → Option Limb) (pos : ℕ → ℕ) → IsTree at pos → (high low : ℕ) → IsInRun at pos high low → Leads (parent_at at) low high
leads_from_run at pos t high low r = leads_within at pos t r.limb.depth high low r (omega arith)

-- the descendants of a key are its run
pub descendants : (at : ℕ → Option Limb) (pos : ℕ → ℕ) → IsTree at pos → (high low : ℕ) → Leads (parent_at at) low high ↔ IsInRun at pos high low
descendants at pos t high low = (λ l. run_from_leads at pos t l, λ r. leads_from_run at pos t high low r)
