-- The rights that places lose (L4 X.2 manual, Unmap; that a place is removed with its last right is this profile's own).
use Rattle.std.specs.Prelude.{◌≡◌, ◌↔◌, Some, IsTrue}
use Rattle.l4_fpage.specs.Rights.{Right, has, no_rights}
use Rattle.l4_mapdb.specs.declared.Place.{Place}
use Rattle.l4_mapdb.specs.declared.Mapping.{Mapping}
use Rattle.l4_mapdb.specs.Mappings.{Mappings, shown}

-- The mapping that is left after the place has lost these rights: the same frame and parent, and the rights that it has not lost, of which
-- there is at least one.
pub record IsLeft (Lost : Right → Type 0) (old new : Mapping) : Type 0 where
  pub frame : new.frame ≡ old.frame
  pub parent : new.parent ≡ old.parent
  pub rights : (right : Right) → IsTrue (has new.rights right) ↔ (IsTrue (has old.rights right) × ¬ (Lost right))
  pub some_right : ¬ (new.rights ≡ no_rights)

-- each place loses these rights and no others, and is removed if it has no right left
pub record LosesRights (Lost : Place → Right → Type 0) (old new : Mappings) : Type 0 where
  pub spaces : new.spaces ≡ old.spaces
  pub places : (place : Place) (m : Mapping) →
      (shown new place ≡ Some m) ↔ ((before : Mapping) × (shown old place ≡ Some before) × IsLeft (Lost place) before m)
