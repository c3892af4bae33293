-- What places show, by the list of entries. (this profile's own)
use Rattle.std.specs.Prelude.{ℕ, Option, option_and_then, option_map, filter_map, List}
use Rattle.std.specs.FinMap as map
use Rattle.l4_nodes.specs.declared.Place.{Place as LinkPlace}
use Rattle.l4_links.specs.declared.Standing.{Standing}
use Rattle.l4_links.specs.declared.Entry.{Entry}
use Rattle.l4_links.specs.Entries.{Entries, Linked, entry_at}
use Rattle.l4_mapdb.specs.declared.Place.{Place}
use Rattle.l4_mapdb.specs.declared.Mapping.{Mapping}
use Rattle.l4_mapdb.specs.Mappings.{Mappings}

-- the page of a place
abbrev pub link_place : Place → LinkPlace
link_place place = record { space = place.space; page = place.page }

-- the place of a page
abbrev pub map_place : LinkPlace → Place
map_place place = record { space = place.space; page = place.page }

-- the place that a key is of
abbrev pub place_at : Entries → ℕ → Option Place
place_at s key = option_map {T = Entry} (λ e. map_place e.place) (entry_at s key)

-- what a place shows where this stands
abbrev pub mapping_of : Entries → Standing → Mapping
mapping_of s t = record { frame = t.frame; rights = t.rights; parent = option_and_then (place_at s) t.parent }

-- the place of an entry where something stands, with what it shows
abbrev pub shown_by : Entries → Option Entry → Option (Place × Mapping)
shown_by s slot = option_and_then (λ (e : Entry). option_map (λ (t : Standing). (map_place e.place, mapping_of s t)) e.stands) slot

-- the places where something stands, by rising key
unfoldable pub shown_in : Entries → List (Place × Mapping)
shown_in s = filter_map (shown_by s) s

abbrev pub mappings_of : Linked → Mappings
mappings_of s = record { places = map.from_entries (shown_in s.entries); spaces = s.spaces }
