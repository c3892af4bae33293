-- Links whose reserved members are 0.
use Rattle.std.proofs.Common.{◌≡◌, ◌<◌, ◌≤◌, ◌+◌, ◌&&◌, ℕ, zero, suc, Bool, true, false, nat_eq, List, [], ◌∷◌, length, drop, get_or, ap, ◌∙◌, refl, sym, inl, inr, arith}
use Rattle.std.proofs.lemmas.Bool.Decides.{eqb_tells}
use Rattle.std.proofs.lemmas.List.{at_drop_more}
use Rattle.l4_c_values.specs.declared.links.Link.{Link}
use Rattle.l4_c_queries.specs.Traced.{are_plain}

not_zero : (n : ℕ) → (n ≡ 0 → ⊥) → nat_eq n 0 ≡ false
not_zero n ne = elim (eqb_tells n 0) [ inl h ↦ absurd (ne h.1) | inr h ↦ h.0 ]

-- behind the last link
pub plain_end : (links : List Link) (at : ℕ) → length links ≤ at → are_plain (drop at links) ≡ true
plain_end [] zero le = refl
plain_end [] (suc at) le = refl
plain_end (link ∷ links) zero le = absurd (omega (arith, le))
plain_end (link ∷ links) (suc at) le = plain_end links at (omega (arith, le))

module _ (links : List Link) (at : ℕ) (d : Link) (lt : at < length links) (whole : Bool) (h : are_plain (drop at links) ≡ whole) where
  -- a link whose reserved member is 0
  pub plain_next : (get_or links at d).reserved ≡ 0 → are_plain (drop (at + 1) links) ≡ whole
  plain_next is = sym (ap (λ (n : ℕ). nat_eq n 0 && are_plain (drop (at + 1) links)) is) ∙ sym (at_drop_more (λ (ls : List Link). are_plain ls) links at d lt) ∙ h

  -- a link with another one
  pub not_plain : ((get_or links at d).reserved ≡ 0 → ⊥) → false ≡ whole
  not_plain ne = sym (ap (λ (b : Bool). b && are_plain (drop (at + 1) links)) (not_zero _ ne)) ∙ sym (at_drop_more (λ (ls : List Link). are_plain ls) links at d lt) ∙ h
