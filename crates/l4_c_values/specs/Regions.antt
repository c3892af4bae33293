-- Regions as C passes them (this profile's own).
use Rattle.l4_fpage.specs.Rights.{set_of_bits}
use Rattle.l4_msg.specs.declared.regions.Region.{Region}
use Rattle.l4_pager.specs.declared.regions.Entry.{Entry}
use Rattle.l4_c_values.specs.declared.regions.RegionGiven.{RegionGiven}

abbrev pub region_of : RegionGiven → Region
region_of g = record { source = g.source; target = g.target; count = g.count; rights = set_of_bits g.rights }

-- the region as an entry of a table: its target pages are the pages that the entry serves
abbrev pub entry_of : RegionGiven → Entry
entry_of g = record { first = g.target; source = g.source; count = g.count; rights = set_of_bits g.rights }
