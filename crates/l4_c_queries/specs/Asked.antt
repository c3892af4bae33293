-- The results of the queries that C makes (this profile's own).
use Rattle.std.specs.Prelude.{◌≡◌, ◌⊎◌, ℕ, [], codes, Option, None, Some}
use Rattle.l4_fpage.specs.Pages.{page_bytes}
use Rattle.l4_fpage.specs.Rights.{bits_of}
use Rattle.l4_threads.specs.Threads.{space_of}
use Rattle.l4_ipc.specs.Reading.{reply_of}
use Rattle.l4_mapdb.specs.Mappings.{shown}
use Rattle.l4_forest.specs.Places.{NonePresentFrom, IsNextPresent}
use Rattle.l4_mapdb.specs.declared.Mapping.{Mapping}
use Rattle.l4_mapdb.specs.declared.Place.{Place}
use Rattle.l4_ipc.specs.Machine.{Machine}
use Rattle.l4_refusals.specs.Texts.{spelled}
use Rattle.l4_c_values.specs.Told.{filled, no_page_result, page_result}
use Rattle.l4_c_values.specs.Replied.{plain_result, reply_result}
use Rattle.l4_c_values.specs.declared.results.ReplyResult.{ReplyResult}
use Rattle.l4_c_values.specs.declared.results.SizeResult.{SizeResult}
use Rattle.l4_c_values.specs.declared.results.SpaceResult.{SpaceResult}
use Rattle.l4_c_values.specs.declared.results.MappingResult.{MappingResult}
use Rattle.l4_c_values.specs.declared.results.PageResult.{PageResult}

-- the result for a space that may have been found; the code says why the query was refused, or is 0
abbrev pub space_result : ℕ → Option ℕ → SpaceResult
space_result code None = record { refusal = code; there = 0; space = 0 }
space_result code (Some space) = record { refusal = code; there = 1; space = space }

-- the size of the kernel's pages in bytes; an empty handle is refused (B1)
abbrev pub TellsSize : Option Machine → SizeResult → Type 0
TellsSize None r = r ≡ record { refusal = spelled (codes "B1"); page_bytes = 0 }
TellsSize (Some m) r = r ≡ record { refusal = 0; page_bytes = page_bytes m.size }

-- the space of a thread, if there is such a thread; an empty handle is refused (B1)
abbrev pub TellsSpace : Option Machine → ℕ → SpaceResult → Type 0
TellsSpace None thread r = r ≡ space_result (spelled (codes "B1")) None
TellsSpace (Some m) thread r = r ≡ space_result 0 (space_of m.threads thread)

abbrev pub mapping_with : Mapping → Option Place → MappingResult
mapping_with mapping None = record {
  refusal = 0;
  there = 1;
  frame = mapping.frame;
  rights = bits_of mapping.rights;
  has_parent = 0;
  parent_page = 0;
  parent_space = 0;
  reserved = filled 2 [];
}
mapping_with mapping (Some place) = record {
  refusal = 0;
  there = 1;
  frame = mapping.frame;
  rights = bits_of mapping.rights;
  has_parent = 1;
  parent_page = place.page;
  parent_space = place.space;
  reserved = filled 2 [];
}

abbrev pub no_mapping_result : ℕ → MappingResult
no_mapping_result code = record { refusal = code; there = 0; frame = 0; rights = 0; has_parent = 0; parent_page = 0; parent_space = 0; reserved = filled 2 [] }

abbrev pub mapping_result : Option Mapping → MappingResult
mapping_result None = no_mapping_result 0
mapping_result (Some mapping) = mapping_with mapping mapping.parent

-- the mapping of a page of a space, if the page is present; an empty handle is refused (B1)
abbrev pub TellsMapping : Option Machine → ℕ → ℕ → MappingResult → Type 0
TellsMapping None space page r = r ≡ no_mapping_result (spelled (codes "B1"))
TellsMapping (Some m) space page r = r ≡ mapping_result (shown m.mappings (record { space = space; page = page }))

-- the lowest present page of the space that is not below `page`, if there is one; an empty handle is refused (B1)
abbrev pub TellsPage : Option Machine → ℕ → ℕ → PageResult → Type 0
TellsPage None space page r = r ≡ no_page_result (spelled (codes "B1"))
TellsPage (Some m) space page r =
    ((r ≡ no_page_result 0) × NonePresentFrom m.mappings space page) ⊎ ((found : ℕ) × (r ≡ page_result found) × IsNextPresent m.mappings space page found)

-- the reply of the thread's last call, if that has ended; an empty handle is refused (B1)
abbrev pub TellsReply : Option Machine → ℕ → ReplyResult → Type 0
TellsReply None thread r = r ≡ plain_result (spelled (codes "B1")) 0 0
TellsReply (Some m) thread r = r ≡ reply_result (reply_of m.threads thread)
