-- The served threads, and the tables from which they answer (this profile's own).
use Rattle.std.specs.Prelude.{◌≡◌, ℕ, Bool, List, [], ◌∷◌, ◌++◌, None, refl}
use Rattle.std.specs.Option.{unwrap_or}
use Rattle.std.specs.Ordering.{nat_cmp}
use Rattle.std.specs.Coded.{Coded, code_by, coded×, coded_ℕ, coded_list}
use Rattle.std.specs.FinMap as fin
use Rattle.std.specs.FinSet as set
use Rattle.l4_sigma0.specs.Owners.{Owners, owners_code}
use Rattle.l4_pager.specs.declared.regions.Entry.{Entry}
use Rattle.l4_pager.specs.Regions.{AddFails, CanAdd, Regions, no_entries, with_entry, regions_code}
use Rattle.l4_servers.specs.declared.servers.RegionRefusal.{RegionRefusal}
use Rattle.l4_servers.specs.declared.servers.RegionRefusal.TheVariants.{Pager, NoMemory}
use Rattle.l4_fpage.specs.declared.sizes.PageSize.{PageSize}

-- sigma0's table of owners, the region table of each thread that has one, and the numbers of the served threads
pub record Servers : Type 0 where
  pub owners : Owners
  pub tables : fin.FinMap nat_cmp Regions
  pub served : set.FinSet nat_cmp

abbrev pub servers : Owners → fin.FinMap nat_cmp Regions → set.FinSet nat_cmp → Servers
servers owners tables served = record { owners = owners; tables = tables; served = served }

abbrev pub servers_code : Coded Entry → Coded Servers
servers_code entry =
    code_by (Owners × (fin.FinMap nat_cmp Regions × set.FinSet nat_cmp)) (coded× owners_code (coded× (fin.code coded_ℕ (regions_code entry)) (set.code coded_ℕ)))
    (λ s. (s.owners, (s.tables, s.served))) (λ p. servers p.0 p.1.0 p.1.1) (λ _. refl)

-- at the start, no frame has an owner, no thread has a table, and no thread is served
abbrev pub no_servers : PageSize → ℕ → Servers
no_servers size frames = servers (record { size = size; frames = frames; owner = fin.empty }) fin.empty set.empty

-- the thread's regions; a thread without a table has none
abbrev pub regions_of : Servers → ℕ → Regions
regions_of s thread = unwrap_or (fin.get s.tables thread) (no_entries s.owners.size)

abbrev pub is_served : Servers → ℕ → Bool
is_served s thread = set.contains s.served thread

-- the thread's table has one more region
abbrev pub with_region : Servers → ℕ → Entry → Servers
with_region s thread entry = servers s.owners (fin.insert s.tables thread (with_entry (regions_of s thread) entry)) s.served

-- the thread is served
abbrev pub with_served : Servers → ℕ → Servers
with_served s thread = servers s.owners s.tables (set.insert s.served thread)

-- the thread is no longer served
abbrev pub no_longer_served : Servers → ℕ → Servers
no_longer_served s thread = servers s.owners s.tables (set.remove s.served thread)

-- the thread is no longer served, and has no table
abbrev pub without : Servers → ℕ → Servers
without s thread = servers s.owners (fin.remove s.tables thread) (set.remove s.served thread)

-- The reason why a region is not added. NoMemory comes last, and is possible only if the thread has no table yet.
abbrev pub RegionFails : Servers → ℕ → Entry → RegionRefusal → Type 0
RegionFails s thread entry (Pager refusal) = AddFails (regions_of s thread) entry refusal
RegionFails s thread entry NoMemory = CanAdd (regions_of s thread) entry × (fin.get s.tables thread ≡ None)
