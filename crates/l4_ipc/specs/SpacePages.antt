-- Each present page is below the number of pages in a space (this profile's own).
use Rattle.std.specs.Prelude.{◌≡◌, ◌<◌, Some}
use Rattle.l4_fpage.specs.Pages.{space_pages}
use Rattle.l4_fpage.specs.declared.sizes.PageSize.{PageSize}
use Rattle.l4_mapdb.specs.declared.Place.{Place}
use Rattle.l4_mapdb.specs.declared.Mapping.{Mapping}
use Rattle.l4_mapdb.specs.Mappings.{Mappings, shown}

-- each present page is one of those of a space, for pages of this size
abbrev pub FitIn : PageSize → Mappings → Type 0
FitIn size s = (place : Place) (m : Mapping) → shown s place ≡ Some m → place.page < space_pages size
