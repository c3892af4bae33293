-- The end of a space that is not there.
use Rattle.std.proofs.Common.{◌≡◌, ℕ, false, Some, IsTrue, sym, ap, ◌∙◌, inl, inr, arith}
use Rattle.std.specs.FinSet as set
use Rattle.std.proofs.lemmas.Bool.Decides.{nat_tests}
use Rattle.l4_spaces.proofs.Showing.{set_without}
use Rattle.l4_mapdb.specs.declared.Place.{Place}
use Rattle.l4_mapdb.specs.declared.Mapping.{Mapping}
use Rattle.l4_mapdb.specs.Mappings.{Mappings, shown, Descends, child, further, IsForest}
use Rattle.l4_forest.specs.Losing.{EndsSpace}
use Rattle.l4_mapdb.proofs.Places.{same_option, same_mappings}
use Rattle.l4_mapdb.proofs.EntriesLemmas.{decided}
use Rattle.l4_mapdb.proofs.Climbing.{shows_parent}

-- where the space isn't there nothing changes
module _ (space : ℕ) (old new : Mappings) (forest : IsForest old) (absent : ¬ (IsTrue (set.contains old.spaces space))) where
  not_shown : (q : Place) (m : Mapping) → q.space ≡ space → shown old q ≡ Some m → ⊥
  not_shown q m same at = absent (ap (set.contains old.spaces) (sym same) ∙ forest.in_space q m at)

  not_above : {q own : Place} → Descends old q own → own.space ≡ space → ⊥
  not_above {q} {own} (child up) same =
      let m = shows_parent old q own up in
      let above = forest.parents q m.0 own m.1 m.2 in
      not_shown own above.above same above.at
  not_above (further up rest) same = not_above rest same

  pub ended_absent : EndsSpace space old new → new ≡ old
  ended_absent ends =
      same_mappings new old (ends.spaces ∙ set_without old.spaces space (decided (set.contains old.spaces space) (λ t. absurd (absent t)) (λ f. let k : set.contains old.spaces space ≡ false = grind (arith, nat_tests) in k)))
      (λ q. same_option (λ m. shown old q ≡ Some m) (shown new q) (shown old q)
      (λ m. (
        λ h. ((ends.places q m).0 h).0,
        λ h. (ends.places q m).1 (
          h,
          λ g. elim g.2 [
            | inl e ↦ not_shown q m (ap (λ (p : Place). p.space) e ∙ g.1) h
            | inr c ↦ not_above c g.1
          ],
        ),
      ))
      (λ m. (λ h. h, λ h. h)))
