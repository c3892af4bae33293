-- The present pages of a space with their mappings, as C gets them (this profile's own).
use Rattle.std.specs.Prelude.{◌≡◌, ◌≤◌, ◌<◌, ◌↔◌, ℕ, List, [], ◌∷◌, length, codes, Option, None, Some, Contains}
use Rattle.std.specs.Option.{option_map_or}
use Rattle.std.specs.List.{flat_map, AllPairs}
use Rattle.l4_fpage.specs.Rights.{bits_of}
use Rattle.l4_mapdb.specs.Mappings.{Mappings, shown, IsPresent}
use Rattle.l4_mapdb.specs.declared.Mapping.{Mapping}
use Rattle.l4_mapdb.specs.declared.Place.{Place}
use Rattle.l4_ipc.specs.Machine.{Machine}
use Rattle.l4_refusals.specs.Texts.{spelled}
use Rattle.l4_c_queries.specs.Placed.{placed}
use Rattle.l4_c_queries.specs.declared.descending.CountResult.{CountResult}
use Rattle.l4_c_queries.specs.declared.mapped.MappedResult.{MappedResult}

abbrev pub mapped_with : ℕ → Mapping → Option Place → MappedResult
mapped_with page mapping None = record {
  page = page;
  frame = mapping.frame;
  rights = bits_of mapping.rights;
  has_parent = 0;
  parent_space = 0;
  parent_page = 0;
  reserved = 0;
}
mapped_with page mapping (Some parent) = record {
  page = page;
  frame = mapping.frame;
  rights = bits_of mapping.rights;
  has_parent = 1;
  parent_space = parent.space;
  parent_page = parent.page;
  reserved = 0;
}

abbrev pub mapped_result : ℕ → Mapping → MappedResult
mapped_result page mapping = mapped_with page mapping mapping.parent

-- the results for those of these pages of the space that are present
abbrev pub mapped_results : Mappings → ℕ → List ℕ → List MappedResult
mapped_results s space pages = flat_map (λ page. option_map_or (λ m. mapped_result page m ∷ []) (shown s (record { space = space; page = page })) []) pages

-- The present pages of the space from the first one on are written in rising order, up to the length of the array, and all of them are counted.
pub record ListsMappings (m : Machine) (space first : ℕ) (old : List MappedResult) (r : CountResult) (new : List MappedResult) : Type 0 where
  pub pages : List ℕ
  pub rising : AllPairs (λ a b. a < b) pages
  pub each : (page : ℕ) → Contains pages page ↔ ((first ≤ page) × IsPresent m.mappings (record { space = space; page = page }))
  pub counted : r ≡ record { refusal = 0; count = length pages }
  pub written : new ≡ placed (mapped_results m.mappings space pages) old

-- the same for the kernel in a handle; an empty handle is refused (B1)
abbrev pub TellsMappings : Option Machine → ℕ → ℕ → List MappedResult → CountResult → List MappedResult → Type 0
TellsMappings None space first old r new = (r ≡ record { refusal = spelled (codes "B1"); count = 0 }) × (new ≡ old)
TellsMappings (Some m) space first old r new = ListsMappings m space first old r new
