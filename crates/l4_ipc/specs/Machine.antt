-- The kernel as one value, and its state at boot.
use Rattle.std.specs.Prelude.{◌≡◌, ℕ, ◌≤◌, refl}
use Rattle.std.specs.FinSet as set
use Rattle.std.specs.Coded.{Coded, code_by, coded×}
use Rattle.l4_mapdb.specs.Mappings.{Mappings, mappings_code}
use Rattle.l4_forest.specs.Boot.{IsFirst}
use Rattle.l4_threads.specs.declared.Thread.{Thread}
use Rattle.l4_threads.specs.Threads.{Threads, first_threads, threads_code}
use Rattle.l4_fpage.specs.declared.sizes.PageSize.{PageSize}
use Rattle.l4_fpage.specs.Pages.{max_frames, size_code}

-- the page size, the threads with their states, and the mappings of every space
pub record Machine : Type 0 where
  pub size : PageSize
  pub threads : Threads
  pub mappings : Mappings

-- the machine of these three parts
abbrev pub machine : PageSize → Threads → Mappings → Machine
machine size t s = record { size = size; threads = t; mappings = s }

-- The kernel at boot, with 1 to 4,096 frames and any page size (this profile's own). sigma0 and root are running, space 0 has each frame
-- mapped at the page of its number, and space 1 is empty.
pub record IsBoot (frames : ℕ) (m : Machine) : Type 0 where
  pub some : 1 ≤ frames
  pub few : frames ≤ max_frames
  pub threads : m.threads ≡ first_threads
  pub first : Mappings
  pub first_is : IsFirst frames first
  pub mappings : m.mappings ≡ record first { spaces = set.insert first.spaces 1 }

-- a machine is stored as its three parts
abbrev pub machine_code : Coded Thread → Coded Machine
machine_code thread =
    code_by (PageSize × (Threads × Mappings)) (coded× size_code (coded× (threads_code thread) mappings_code)) (λ m. (m.size, (m.threads, m.mappings)))
    (λ p. record { size = p.0; threads = p.1.0; mappings = p.1.1 }) (λ _. refl)
