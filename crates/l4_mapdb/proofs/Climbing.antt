-- The parent of a place.
use Rattle.std.proofs.Common.{◌≡◌, Some, arith}
use Rattle.l4_mapdb.specs.declared.Place.{Place}
use Rattle.l4_mapdb.specs.declared.Mapping.{Mapping}
use Rattle.l4_mapdb.specs.Mappings.{Mappings, shown, parent_of}

-- the parent of a place is of a place that is there
pub shows_parent : (s : Mappings) (place parent : Place) → parent_of s place ≡ Some parent → (m : Mapping) × (shown s place ≡ Some m) × (m.parent ≡ Some parent)
shows_parent s place parent up = grind arith
