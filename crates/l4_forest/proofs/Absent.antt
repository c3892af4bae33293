-- Taking rights from all that descends from a place that isn't present changes nothing.
use Rattle.std.proofs.Common.{◌≡◌, Bool, Option, Some, None, sym, ap, ◌∙◌, inl, inr}
use Rattle.l4_fpage.specs.Rights.{RightsSet}
use Rattle.l4_mapdb.specs.declared.Place.{Place}
use Rattle.l4_mapdb.specs.declared.Mapping.{Mapping}
use Rattle.l4_mapdb.specs.Mappings.{Mappings, shown, Descends, child, further, IsForest}
use Rattle.l4_forest.specs.Losing.{RevokedAt, Revokes}
use Rattle.l4_mapdb.proofs.Climbing.{shows_parent}
use Rattle.l4_mapdb.proofs.Nothing.{loses_none}
use Rattle.l4_mapdb.proofs.Unique.{loses_unique}

module _ (s : Mappings) (forest : IsForest s) where
  -- what descends from a place has it present
  none_below : {low high : Place} → Descends s low high → shown s high ≡ None → ⊥
  none_below {low} {high} (child up) absent =
      let m = shows_parent s low high up in
      let above = forest.parents low m.0 high m.1 m.2 in
      let k : ◌≡◌ {A = Option Mapping} None (Some above.above) = sym absent ∙ above.at in
      cc
  none_below (further up rest) absent = none_below rest absent

pub revoked_absent : (from : Place) (rights : RightsSet) (with_self : Bool) (old new : Mappings) → IsForest old → shown old from ≡ None → Revokes from rights with_self old new → new ≡ old
revoked_absent from rights with_self old new forest absent revokes =
    loses_unique (RevokedAt old from rights with_self) old new old revokes
    (loses_none (RevokedAt old from rights with_self) old forest (λ q m at k lost. elim lost.1 [
      | inl own ↦ let e : ◌≡◌ {A = Option Mapping} None (Some m) = sym absent ∙ ap (shown old) (sym own.1) ∙ at in cc
      | inr down ↦ none_below old forest down absent
    ]))
