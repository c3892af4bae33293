-- The pages that descend from a page, as C gets them (this profile's own).
use Rattle.std.specs.Prelude.{◌≡◌, ◌⊎◌, ℕ, List, length, map, codes, Option, None, Some}
use Rattle.l4_mapdb.specs.declared.Place.{Place}
use Rattle.l4_forest.specs.Descendants.{AreDescendants}
use Rattle.l4_ipc.specs.Machine.{Machine}
use Rattle.l4_refusals.specs.Texts.{spelled}
use Rattle.l4_c_queries.specs.Placed.{placed}
use Rattle.l4_c_queries.specs.declared.descending.PlaceResult.{PlaceResult}
use Rattle.l4_c_queries.specs.declared.descending.CountResult.{CountResult}

abbrev pub place_result : Place → PlaceResult
place_result place = record { space = place.space; page = place.page; reserved = 0 }

-- The pages that descend from the page are written up to the length of the array, and all of them are counted. If an allocation failed,
-- nothing is written.
abbrev pub ListsDescendants : Machine → ℕ → ℕ → List PlaceResult → CountResult → List PlaceResult → Type 0
ListsDescendants m space page old r new =
    ((places : List Place) × AreDescendants m.mappings (record { space = space; page = page }) places
    × (r ≡ record { refusal = 0; count = length places }) × (new ≡ placed (map place_result places) old))
    ⊎ ((r ≡ record { refusal = spelled (codes "NoMemory"); count = 0 }) × (new ≡ old))

-- the same for the kernel in a handle; an empty handle is refused (B1)
abbrev pub TellsDescendants : Option Machine → ℕ → ℕ → List PlaceResult → CountResult → List PlaceResult → Type 0
TellsDescendants None space page old r new = (r ≡ record { refusal = spelled (codes "B1"); count = 0 }) × (new ≡ old)
TellsDescendants (Some m) space page old r new = ListsDescendants m space page old r new
