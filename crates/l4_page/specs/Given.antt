-- Machines and regions as the page passes them (this profile's own).
use Rattle.std.specs.Prelude.{◌≡◌, ◌≢◌, ◌⊎◌, ℕ, ◌<◌, ◌≤◌, List, nat_eq, if◌then◌else◌, codes}
use Rattle.l4_fpage.specs.Pages.{page_bytes, max_frames}
use Rattle.l4_fpage.specs.Rights.{set_of_bits}
use Rattle.l4_fpage.specs.declared.sizes.PageSize.{PageSize}
use Rattle.l4_refusals.specs.Texts.{spelled}
use Rattle.l4_msg.specs.declared.regions.Region.{Region}
use Rattle.l4_decode.specs.declared.decoding.Reading.{Reading}
use Rattle.l4_decode.specs.declared.decoding.Reading.TheVariants.{Message, Each, Fpage, Window, Id, Control}
use Rattle.l4_page.specs.declared.given.RegionGiven.{RegionGiven}

abbrev pub region_of : RegionGiven → Region
region_of g = record { source = g.source; target = g.target; count = g.count; rights = set_of_bits g.rights }

-- the reading with this number
abbrev pub reading_of : ℕ → Reading
reading_of n =
    if nat_eq n 1 then Each else if nat_eq n 2 then Fpage else if nat_eq n 3 then Window else if nat_eq n 4 then Id else if nat_eq n 5 then Control else Message

-- no page has this number of bytes
abbrev pub IsNoSize : ℕ → Type 0
IsNoSize bytes = (size : PageSize) → bytes ≢ page_bytes size

-- a machine can have this number of frames
abbrev pub HasFrames : ℕ → Type 0
HasFrames frames = (1 ≤ frames) × (frames ≤ max_frames)

abbrev pub HasNoFrames : ℕ → Type 0
HasNoFrames frames = (frames ≡ 0) ⊎ (max_frames < frames)

-- the reason why there is no machine with these page bytes (B4) and this number of frames (K6)
abbrev pub IsNoMachine : ℕ → ℕ → ℕ → Type 0
IsNoMachine bytes frames refusal =
    (IsNoSize bytes × (refusal ≡ spelled (codes "B4")))
    ⊎ ((size : PageSize) × (bytes ≡ page_bytes size) × HasNoFrames frames × (refusal ≡ spelled (codes "K6")))

-- the call uses pages with this number of bytes, or no page has this number and the call is refused
abbrev pub InBytes : ℕ → (PageSize → Type 0) → Type 0 → Type 0
InBytes bytes Goes Refused = ((size : PageSize) × (bytes ≡ page_bytes size) × Goes size) ⊎ (IsNoSize bytes × Refused)

-- the call uses a machine with this number of frames and page bytes; a size that no page has (B4), and then a number of frames that no
-- machine has (K6), is refused
abbrev pub InMachine : ℕ → ℕ → (PageSize → Type 0) → (List ℕ → Type 0) → Type 0
InMachine bytes frames Goes Refused =
    InBytes bytes (λ size. (HasFrames frames × Goes size) ⊎ (HasNoFrames frames × Refused (codes "K6"))) (Refused (codes "B4"))
