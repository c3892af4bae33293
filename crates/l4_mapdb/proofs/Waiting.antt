-- A key whose page a message moves, and the blank that waits for what is moved.
use Rattle.std.proofs.Common.{◌≡◌, ◌≢◌, ◌↔◌, ℕ, Option, Some, None, sym, ◌∙◌, subst}
use Rattle.l4_fpage.specs.Rights.{RightsSet, common, no_rights}
use Rattle.l4_nodes.specs.declared.Place.{Place as LinkPlace}
use Rattle.l4_links.specs.declared.Standing.{Standing}
use Rattle.l4_links.specs.Entries.{Entries, standing_at, IsAt, IsStanding, IsBlank}
use Rattle.l4_mapdb.specs.Inside.Placing.{IsSourceAt, HasBlank}
use Rattle.l4_mapdb.proofs.Unique.{same_value}

pub stands_there : (s : Entries) (source : LinkPlace) (rights : RightsSet) (key : ℕ) → IsSourceAt s source rights key → IsStanding s key
stands_there s source rights key is none = let k : ◌≡◌ {A = Option Standing} None (Some is.standing) = sym none ∙ is.stands in cc

pub shares : (s : Entries) (source : LinkPlace) (rights : RightsSet) (key : ℕ) → IsSourceAt s source rights key → (above : Standing) → standing_at s key ≡ Some above → common above.rights rights ≢ no_rights
shares s source rights key is above at = subst (λ (t : Standing). common t.rights rights ≢ no_rights) (same_value (sym is.stands ∙ at)) is.some_right

-- the blank is found
module _ (s : Entries) (source target : LinkPlace) (rights : RightsSet) (key : ℕ) (has : HasBlank source target rights s) (is : IsSourceAt s source rights key) (found : Option ℕ) (find : (k : ℕ) → (found ≡ Some k) ↔ IsAt s target k) where
  pub blank_found : (blank : ℕ) → found ≡ Some blank → IsBlank s blank
  blank_found blank at = let h = has key is in subst (IsBlank s) (same_value (sym ((find h.0).1 h.1) ∙ at)) h.2

  pub not_absent : found ≢ None
  not_absent none = let h = has key is in let k : ◌≡◌ {A = Option ℕ} None (Some h.0) = sym none ∙ (find h.0).1 h.1 in cc
