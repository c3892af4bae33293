-- The place of each key. (this profile's own)
use Rattle.std.specs.Prelude.{ℕ}
use Rattle.std.specs.Option.{option_map_or}
use Rattle.l4_links.specs.Entries.{Entries}
use Rattle.l4_mapdb.specs.declared.Place.{Place}
use Rattle.l4_mapdb.specs.View.{place_at}

-- the place of a key that is in use, and page 0 of space 0 for any other key
abbrev pub place_under : Entries → ℕ → Place
place_under s key = option_map_or (λ (place : Place). place) (place_at s key) (record { space = 0; page = 0 })
