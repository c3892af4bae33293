-- What descends from a place, as a list (this profile's own).
use Rattle.std.specs.Prelude.{List}
use Rattle.l4_links.specs.ListOf.{IsListOf}
use Rattle.l4_mapdb.specs.declared.Place.{Place}
use Rattle.l4_mapdb.specs.Mappings.{Mappings, Descends}

-- the list has each place that descends from this one, once, and no other place
abbrev pub AreDescendants : Mappings → Place → List Place → Type 0
AreDescendants s high list = IsListOf (λ (low : Place). Descends s low high) list
