-- A pager's regions, and its answers (this profile's own).
use Rattle.std.specs.Coded.{Coded, code_by, coded×, coded_list}
use Rattle.std.specs.Prelude.{refl, [], ◌∷◌, ◌++◌, ◌≡◌, ℕ, ◌+◌, ◌-◌, ◌/◌, ◌<◌, ◌≤◌, ◌⊎◌, ◌&&◌, Bool, nat_le, nat_lt, codes, List, Option, Some, None, MatchOption, IsTrue, length, slice_get}
use Rattle.std.specs.List.{All, Any, AllPairs, find}
use Rattle.l4_fpage.specs.Rights.{RightsSet, is_none, without}
use Rattle.l4_fpage.specs.Pages.{page_bytes, space_pages}
use Rattle.l4_msg.specs.declared.messages.Message.{Message}
use Rattle.l4_msg.specs.declared.protocols.PageFault.{PageFault}
use Rattle.l4_msg.specs.Protocols.{FaultReads, nothing, GivesPages}
use Rattle.l4_pager.specs.declared.regions.Entry.{Entry}
use Rattle.l4_pager.specs.declared.regions.PagerRefusal.{PagerRefusal}
use Rattle.l4_pager.specs.declared.regions.PagerRefusal.TheVariants.{Overlap, NoRegion, Full, BadRegion}
use Rattle.l4_fpage.specs.declared.sizes.PageSize.{PageSize}
use Rattle.l4_fpage.specs.Pages.{size_code}

-- a pager's table: the size of its pages, and its entries in the order in which they were added
pub record Regions : Type 0 where
  pub size : PageSize
  pub entries : List Entry

-- a table is stored as the size and the list
abbrev pub regions_code : Coded Entry → Coded Regions
regions_code entry = code_by (PageSize × List Entry) (coded× size_code (coded_list entry)) (λ t. (t.size, t.entries)) (λ p. record { size = p.0; entries = p.1 }) (λ _. refl)

-- a table without entries, and a table with one more entry
abbrev pub no_entries : PageSize → Regions
no_entries size = record { size = size; entries = [] }

abbrev pub with_entry : Regions → Entry → Regions
with_entry t e = record t { entries = t.entries ++ e ∷ [] }

-- the greatest number of entries in a table
abbrev pub max_regions : ℕ
max_regions = 64

-- the entry has no page, a page or source page beyond the end of a space with pages of this size, or no right
abbrev pub IsBad : PageSize → Entry → Type 0
IsBad size e = (e.count ≡ 0) ⊎ ((space_pages size < e.first + e.count) ⊎ ((space_pages size < e.source + e.count) ⊎ IsTrue (is_none e.rights)))

-- the entry contains the page
abbrev pub is_for : Entry → ℕ → Bool
is_for e page = nat_le e.first page && nat_lt page (e.first + e.count)

-- some page is in both entries
abbrev pub Meet : Entry → Entry → Type 0
Meet a b = (page : ℕ) × IsTrue (is_for a page) × IsTrue (is_for b page)

-- the reason why an entry is not added; each reason applies only if none of the earlier ones does
abbrev pub AddFails : Regions → Entry → PagerRefusal → Type 0
AddFails t e BadRegion = IsBad t.size e
AddFails t e Overlap = (¬ IsBad t.size e) × Any (Meet e) t.entries
AddFails t e Full = (¬ IsBad t.size e) × All (λ other. ¬ Meet e other) t.entries × (max_regions ≤ length t.entries)
AddFails t e NoRegion = ⊥

-- the code of a refusal, as texts and the C interface have it
abbrev pub code_of : PagerRefusal → List ℕ
code_of Overlap = codes "P1"
code_of NoRegion = codes "P2"
code_of Full = codes "P3"
code_of BadRegion = codes "P4"

-- the entry is not refused
pub record CanAdd (t : Regions) (e : Entry) : Type 0 where
  pub good : ¬ IsBad t.size e
  pub apart : All (λ other. ¬ Meet e other) t.entries
  pub room : length t.entries < max_regions

-- the invariant of a table: no entry is bad, and no page is in two entries
pub record IsTable (t : Regions) : Type 0 where
  pub good : All (λ e. ¬ IsBad t.size e) t.entries
  pub apart : AllPairs (λ a b. ¬ Meet a b) t.entries

-- the entry contains the page, and its rights include those of the access
abbrev pub serves : ℕ → RightsSet → Entry → Bool
serves page access e = is_for e page && is_none (without access e.rights)

-- The entry that contains the page and whose rights include those of the access. A table has at most one such entry.
abbrev pub entry_for : List Entry → ℕ → RightsSet → Option Entry
entry_for es page access = find (serves page access) es

-- what was found is that entry with its position, or there is no such entry
abbrev pub IsPlaced : List Entry → ℕ → RightsSet → Option (ℕ × Entry) → Type 0
IsPlaced es page access found =
    MatchOption found (entry_for es page access ≡ None) (λ p. (entry_for es page access ≡ Some p.1) × (slice_get es p.0 ≡ Some p.1))

-- the source page of a page
abbrev pub source_of : Entry → ℕ → ℕ
source_of e page = e.source + (page - e.first)

-- the answer to a fault: the source page, with the entry's rights, if an entry serves the page; otherwise a nil map item
abbrev pub AnswersFault : Regions → PageFault → Message → Type 0
AnswersFault t fault answer =
    MatchOption (entry_for t.entries (fault.address / page_bytes t.size) fault.access) (answer ≡ nothing)
    (λ e. GivesPages t.size (source_of e (fault.address / page_bytes t.size)) (fault.address / page_bytes t.size) 0 e.rights answer)

-- the answer to a message: that to its fault, if it is a page fault; otherwise a nil map item
abbrev pub Answers : Regions → Message → Message → Type 0
Answers t m answer =
    ((fault : PageFault) × FaultReads m fault × AnswersFault t fault answer)
    ⊎ (((fault : PageFault) → ¬ FaultReads m fault) × (answer ≡ nothing))
