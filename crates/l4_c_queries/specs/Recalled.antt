-- Entries of a segment, and the calls that ended in entries, as C gets them (this profile's own).
use Rattle.std.specs.Prelude.{◌≡◌, ℕ, ◌-◌, ◌<◌, ◌≤◌, ◌⊎◌, nat_le, if◌then◌else◌, slice_get, List, length, drop, codes}
use Rattle.std.specs.List.{flat_map}
use Rattle.l4_record.specs.declared.entries.Entry.{Entry}
use Rattle.l4_record.specs.declared.segments.Segment.{Segment}
use Rattle.l4_c_values.specs.Recorded.{no_entry_result, entry_result}
use Rattle.l4_c_values.specs.declared.recorded.EntryResult.{EntryResult}
use Rattle.l4_refusals.specs.Texts.{spelled}
use Rattle.l4_c_queries.specs.Placed.{placed}
use Rattle.l4_c_queries.specs.declared.descending.CountResult.{CountResult}

-- the entry with this number since boot, or none if the segment lacks it
abbrev pub entry_in : Segment → ℕ → EntryResult
entry_in s number = if nat_le s.first number then entry_result (slice_get s.history.entries (number - s.first)) else no_entry_result 0

-- the numbers of the threads whose calls ended in these entries, entry by entry
abbrev pub ended_in : List Entry → List ℕ
ended_in entries = flat_map (λ entry. entry.answer.ended.items) entries

-- The numbers of the threads whose calls ended in the entries from this number on are written to the array, up to its length, and all of them
-- are counted. If the entry with this number was handed out (L8), nothing is written.
abbrev pub ListsEnded : ℕ → List Entry → ℕ → List ℕ → CountResult → List ℕ → Type 0
ListsEnded kept_from history number old r new =
    ((number < kept_from) × (r ≡ record { refusal = spelled (codes "L8"); count = 0 }) × (new ≡ old))
    ⊎ ((kept_from ≤ number) × (r ≡ record { refusal = 0; count = length (ended_in (drop number history)) })
    × (new ≡ placed (ended_in (drop number history)) old))
