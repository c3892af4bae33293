-- The entries once granted pages have the rights that they are granted with. (this profile's own)
use Rattle.std.specs.Prelude.{Option, Some, None, map, option_map}
use Rattle.l4_fpage.specs.Rights.{RightsSet, common}
use Rattle.l4_links.specs.declared.Standing.{Standing}
use Rattle.l4_links.specs.declared.Entry.{Entry}
use Rattle.l4_links.specs.Entries.{Linked}

-- the rights that are left of these where an item granted them
abbrev pub left_by : Option RightsSet → RightsSet → RightsSet
left_by None rights = rights
left_by (Some cap) rights = common rights cap

abbrev pub settled_standing : Standing → Standing
settled_standing t = record t { rights = left_by t.granted t.rights }

abbrev pub settled_entry : Option Entry → Option Entry
settled_entry entry = option_map {T = Entry} (λ e. record e { stands = option_map settled_standing e.stands }) entry

-- each granted page has the rights that it shares with its item
abbrev pub settled : Linked → Linked
settled s = record s { entries = map settled_entry s.entries }
