-- Where a place shows something, by its key. (this profile's own)
use Rattle.std.specs.Prelude.{◌≡◌, ℕ, Some}
use Rattle.l4_links.specs.declared.Standing.{Standing}
use Rattle.l4_links.specs.declared.Entry.{Entry}
use Rattle.l4_links.specs.Entries.{Entries, entry_at}
use Rattle.l4_mapdb.specs.declared.Place.{Place}
use Rattle.l4_mapdb.specs.declared.Mapping.{Mapping}
use Rattle.l4_mapdb.specs.View.{link_place, mapping_of}

-- the place has a key, and this stands there
pub record IsShown (s : Entries) (place : Place) (m : Mapping) : Type 0 where
  pub key : ℕ
  pub entry : Entry
  pub standing : Standing
  pub at : entry_at s key ≡ Some entry
  pub place_is : entry.place ≡ link_place place
  pub stands : entry.stands ≡ Some standing
  pub mapping : mapping_of s standing ≡ m
