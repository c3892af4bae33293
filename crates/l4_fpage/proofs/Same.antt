-- Values with the same fields are the same: their facts have one proof.
use Rattle.std.proofs.Common.{◌≡◌, ℕ, ◌*◌, ◌/◌, ◌%◌, ◌^◌, ◌≤◌, inl, inr, refl, sym, ap, ◌∙◌, subst, arith}
use Rattle.std.proofs.Props.{props}
use Rattle.l4_fpage.specs.declared.fpages.Extent.{Extent}
use Rattle.l4_fpage.specs.declared.fpages.Fpage.{Fpage}
use Rattle.l4_fpage.specs.declared.fpages.Fpage.TheVariants.{Nil, Complete, Sized}
use Rattle.l4_fpage.specs.Rights.{RightsSet}
use Rattle.l4_fpage.specs.Fpages.{ReadsAs, IsMalformed, base_field}

made : (base log : ℕ) → RightsSet → (10 ≤ log) × (log ≤ 31) × (base % 2 ^ log ≡ 0) → Extent
made base log r f = record { base = base; log = log; rights = r; large = f.0; small = f.1; aligned = f.2 }

facts_prop : (base log : ℕ) → IsProp ((10 ≤ log) × (log ≤ 31) × (base % 2 ^ log ≡ 0))
facts_prop base log = hlevel props

same_made : (a b m n : ℕ) (r s : RightsSet) → a ≡ b → m ≡ n → r ≡ s → (f : (10 ≤ m) × (m ≤ 31) × (a % 2 ^ m ≡ 0)) (g : (10 ≤ n) × (n ≤ 31) × (b % 2 ^ n ≡ 0)) → made a m r f ≡ made b n s g
same_made a b m n r s ea em er =
    subst (λ (y : RightsSet). (f : (10 ≤ m) × (m ≤ 31) × (a % 2 ^ m ≡ 0)) (g : (10 ≤ n) × (n ≤ 31) × (b % 2 ^ n ≡ 0)) → made a m r f ≡ made b n y g) er
    (subst (λ (y : ℕ). (f : (10 ≤ m) × (m ≤ 31) × (a % 2 ^ m ≡ 0)) (g : (10 ≤ y) × (y ≤ 31) × (b % 2 ^ y ≡ 0)) → made a m r f ≡ made b y r g) em
    (subst (λ (y : ℕ). (f : (10 ≤ m) × (m ≤ 31) × (a % 2 ^ m ≡ 0)) (g : (10 ≤ m) × (m ≤ 31) × (y % 2 ^ m ≡ 0)) → made a m r f ≡ made y m r g) ea
    (λ f g. ap (made a m r) (facts_prop a m f g))))

pub same_extent : (d e : Extent) → d.base ≡ e.base → d.log ≡ e.log → d.rights ≡ e.rights → d ≡ e
unfolding made
same_extent d e a b c = same_made d.base e.base d.log e.log d.rights e.rights a b c (d.large, d.small, d.aligned) (e.large, e.small, e.aligned)

-- a word is read as one fpage
pub reads_same : (w : ℕ) (f g : Fpage) → ReadsAs w f → ReadsAs w g → f ≡ g
reads_same w Nil Nil h k = refl
reads_same w Nil (Complete s) h k = absurd (elim k.0 [ inl a ↦ omega (arith, a.0) | inr b ↦ omega arith ])
reads_same w Nil (Sized e) h k = absurd (omega (arith, k.0, e.large))
reads_same w (Complete r) Nil h k = absurd (elim h.0 [ inl a ↦ omega (arith, a.0) | inr b ↦ omega arith ])
reads_same w (Complete r) (Complete s) h k = ap Complete ((h.1 ∙ sym k.1))
reads_same w (Complete r) (Sized e) h k = absurd (elim h.0 [ inl a ↦ omega (arith, a.0, k.0, e.large) | inr b ↦ omega (arith, k.0, e.small) ])
reads_same w (Sized d) Nil h k = absurd (omega (arith, h.0, d.large))
reads_same w (Sized d) (Complete s) h k = absurd (elim k.0 [ inl a ↦ omega (arith, a.0, h.0, d.large) | inr b ↦ omega (arith, h.0, d.small) ])
reads_same w (Sized d) (Sized e) h k =
    let l : d.log ≡ e.log = h.0 ∙ sym k.0 in
    let b : d.base ≡ e.base = h.1 ∙ ap (λ (i : ℕ). base_field w / 2 ^ i * 2 ^ i) l ∙ sym k.1 in
    ap Sized (same_extent d e b l (h.2 ∙ sym k.2))

-- a word that is no fpage is read as none
pub malformed_reads_none : (w : ℕ) (f : Fpage) → IsMalformed w → ReadsAs w f → ⊥
malformed_reads_none w Nil m h = elim m [ inl a ↦ omega (arith, a.0, h) | inr b ↦ elim b [ inl d ↦ omega (arith, d.0, h) | inr d ↦ omega (arith, d, h) ] ]
malformed_reads_none w (Complete r) m h =
    elim h.0 [
      | inl k ↦ elim m [ inl a ↦ omega (arith, a.1, k.1) | inr b ↦ elim b [ inl d ↦ omega (arith, d.0, k.0) | inr d ↦ omega (arith, d, k.0) ] ]
      | inr k ↦ elim m [ inl a ↦ omega (arith, a.0, k) | inr b ↦ elim b [ inl d ↦ omega (arith, d.1, k) | inr d ↦ omega (arith, d, k) ] ]
    ]
malformed_reads_none w (Sized e) m h =
    elim m [ inl a ↦ omega (arith, a.0, h.0, e.large) | inr b ↦ elim b [ inl d ↦ omega (arith, d.1, h.0, e.large) | inr d ↦ omega (arith, d, h.0, e.small) ] ]
