-- What is under a page of a space stays under it as long as it is there.
use Rattle.std.proofs.Common.{◌≡◌, ℕ, Bool, Some, sym, ap, ◌∙◌, subst, inl, inr, option_and_then}
use Rattle.l4_fpage.specs.Rights.{Right}
use Rattle.l4_mapdb.specs.declared.Place.{Place}
use Rattle.l4_mapdb.specs.declared.Mapping.{Mapping}
use Rattle.l4_mapdb.specs.Mappings.{Mappings, shown, parent_of, child, further, Descends, IsForest}
use Rattle.l4_mapdb.specs.Losing.{LosesRights}
use Rattle.l4_mapdb.proofs.Climbing.{shows_parent}
use Rattle.l4_unmap.specs.Inside.Taking.{IsUnder}

-- the page of the space
abbrev pub page_of : ℕ → ℕ → Place
page_of space page = record { space = space; page = page }

-- what descends from a place that is under a page is under it too
pub under_down : (s : Mappings) (space : ℕ) (own : Bool) (page : ℕ) (low high : Place) → parent_of s low ≡ Some high → IsUnder s space own page high → IsUnder s space own page low
under_down s space own page low high up (inl self) = inr (child (up ∙ ap (λ (p : Place). Some p) self.1))
under_down s space own page low high up (inr chain) = inr (further up chain)

-- rights were lost, and what is left is a forest
module _ (Lost : Place → Right → Type 0) (old new : Mappings) (loses : LosesRights Lost old new) (forest : IsForest new) where
  parent_was : (q : Place) (m : Mapping) → shown new q ≡ Some m → parent_of old q ≡ m.parent
  parent_was q m at =
      let was = (loses.places q m).0 at in
      ap (option_and_then (λ (x : Mapping). x.parent)) was.1 ∙ sym was.2.parent

  -- the ancestors of a place that is there are there
  chain_kept : {q p : Place} → Descends old q p → (m : Mapping) → shown new q ≡ Some m → Descends new q p × ((a : Mapping) × (shown new p ≡ Some a))
  chain_kept {q} {p} (child up) m at =
      let m_up : m.parent ≡ Some p = sym (parent_was q m at) ∙ up in
      let holds = forest.parents q m p at m_up in
      (child (ap (option_and_then (λ (x : Mapping). x.parent)) at ∙ m_up), (holds.above, holds.at))
  chain_kept {q} {p} (further {middle = c} up rest) m at =
      let m_up : m.parent ≡ Some c = sym (parent_was q m at) ∙ up in
      let holds = forest.parents q m c at m_up in
      let more = chain_kept rest holds.above holds.at in
      (further (ap (option_and_then (λ (x : Mapping). x.parent)) at ∙ m_up) more.0, more.1)

  chain_was : {q p : Place} → Descends new q p → Descends old q p
  chain_was {q} {p} (child up) = let w = shows_parent new q p up in child (parent_was q w.0 w.1 ∙ w.2)
  chain_was {q} {p} (further {middle = c} up rest) = let w = shows_parent new q c up in further (parent_was q w.0 w.1 ∙ w.2) (chain_was rest)

  pub under_kept : (space : ℕ) (own : Bool) (page : ℕ) (q : Place) → IsUnder old space own page q → (m : Mapping) → shown new q ≡ Some m
      → IsUnder new space own page q × ((a : Mapping) × (shown new (page_of space page) ≡ Some a))
  under_kept space own page q (inl self) m at = (inl self, (m, subst (λ (p : Place). shown new p ≡ Some m) self.1 at))
  under_kept space own page q (inr chain) m at = let k = chain_kept chain m at in (inr k.0, k.1)

  pub under_was : (space : ℕ) (own : Bool) (page : ℕ) (q : Place) → IsUnder new space own page q → IsUnder old space own page q
  under_was space own page q (inl self) = inl self
  under_was space own page q (inr chain) = inr (chain_was chain)
