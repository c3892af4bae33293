-- Pages that a walk passes over.
use Rattle.std.proofs.Common.{◌≡◌, ℕ, ◌<◌, ◌≤◌, Bool, true, false, inl, inr, arith}
use Rattle.l4_links.specs.Entries.{Entries, IsAt, NoKeyIn, IsNextKeyIn, NoParentIn}
use Rattle.l4_forest.specs.Inside.Cuts.{IsOver}

-- what is at the pages from the first one on and below the last one is over no key
abbrev pub Passes : Entries → ℕ → Bool → ℕ → ℕ → Type 0
Passes s space with_self first last = (other own key : ℕ) → first ≤ other → other < last → IsAt s (record { space = space; page = other }) own → ¬ (IsOver s with_self own key)

-- pages without keys
pub no_keys : (s : Entries) (space : ℕ) (with_self : Bool) (first last : ℕ) → NoKeyIn s space first last → Passes s space with_self first last
no_keys s space with_self first last none other own key le lt at over = none other le lt (own, at)

pub before_key : (s : Entries) (space : ℕ) (with_self : Bool) (first end page : ℕ) → IsNextKeyIn s space first end page → Passes s space with_self first page
before_key s space with_self first end page is_next other own key le lt at over = let least = is_next.least other le (own, at) in omega (arith, lt, least)

-- pages that nothing descends from, where they aren't meant themselves
pub no_parents : (s : Entries) (space first last : ℕ) → NoParentIn s space first last → Passes s space false first last
no_parents s space first last none other own key le lt at (inl self) = let h : false ≡ true = self.0 in cc
no_parents s space first last none other own key le lt at (inr below) = none other own key le lt at below
