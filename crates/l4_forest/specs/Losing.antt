-- The effect of a revocation, and the end of a space (L4 X.2 manual, Unmap; the end of a space is this profile's own).
use Rattle.std.specs.Prelude.{◌≡◌, ℕ, ◌↔◌, Bool, Some, IsTrue, ◌⊎◌}
use Rattle.std.specs.FinSet as set
use Rattle.l4_fpage.specs.Pages.{InBlock}
use Rattle.l4_fpage.specs.Rights.{RightsSet, Right, has}
use Rattle.l4_mapdb.specs.declared.Place.{Place}
use Rattle.l4_mapdb.specs.declared.Mapping.{Mapping}
use Rattle.l4_mapdb.specs.Mappings.{Mappings, shown, Descends, IsOrDescends}
use Rattle.l4_mapdb.specs.Losing.{LosesRights}

-- every place that descends from this one loses these rights, and so does this one if `with_self` is true
abbrev pub RevokedAt : Mappings → Place → RightsSet → Bool → Place → Right → Type 0
RevokedAt old from rights with_self place right =
    IsTrue (has rights right) × ((IsTrue with_self × (place ≡ from)) ⊎ Descends old place from)

abbrev pub Revokes : Place → RightsSet → Bool → Mappings → Mappings → Type 0
Revokes from rights with_self old new = LosesRights (RevokedAt old from rights with_self) old new

-- the rights that a revocation of any page of the block would remove
abbrev pub RevokedInBlock : Mappings → ℕ → ℕ → ℕ → RightsSet → Bool → Place → Right → Type 0
RevokedInBlock old space first log rights with_self place right =
    (page : ℕ) × InBlock first log page × RevokedAt old (record { space = space; page = page }) rights with_self place right

abbrev pub RevokesBlock : ℕ → ℕ → ℕ → RightsSet → Bool → Mappings → Mappings → Type 0
RevokesBlock space first log rights with_self old new = LosesRights (RevokedInBlock old space first log rights with_self) old new

-- the place is in the space, or descends from a place in it
abbrev pub GoesWithSpace : Mappings → ℕ → Place → Type 0
GoesWithSpace old space place = (own : Place) × (own.space ≡ space) × IsOrDescends old place own

-- the space ends: its places are removed with all their descendants, and everything else stays
pub record EndsSpace (space : ℕ) (old new : Mappings) : Type 0 where
  pub spaces : new.spaces ≡ set.remove old.spaces space
  pub places : (place : Place) (m : Mapping) →
      (shown new place ≡ Some m) ↔ ((shown old place ≡ Some m) × ¬ (GoesWithSpace old space place))
