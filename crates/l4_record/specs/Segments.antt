-- Histories that are handed out in segments (this profile's own).
use Rattle.std.specs.Prelude.{ℕ, ◌≡◌, ◌+◌, ◌-◌, List, [], ◌∷◌, ◌++◌, None, length, take, drop}
use Rattle.std.specs.List.{flat_map}
use Rattle.l4_ipc.specs.Machine.{Machine}
use Rattle.l4_ipc.specs.Steps.{IsIdle}
use Rattle.l4_record.specs.declared.entries.Entry.{Entry}
use Rattle.l4_record.specs.declared.segments.Segment.{Segment}
use Rattle.l4_record.specs.History.{Follows, IsLegal}

-- The entries that are kept, and how many they are. The history is the list of all entries since boot. Those with lower numbers than
-- `kept_from` were handed out, and the others are kept.
abbrev pub kept : ℕ → List Entry → List Entry
kept kept_from history = drop kept_from history

abbrev pub kept_count : ℕ → List Entry → ℕ
kept_count kept_from history = length history - kept_from

-- The entries that were handed out are a legal history from boot, and lead to a base, at which no step is enabled. The entries that are
-- kept lead from the base to the machine, and none of their steps is refused. Like every segment, they begin with the start of a call or
-- with a Cancel.
pub record HasBase (frames : ℕ) (history : List Entry) (kept_from : ℕ) (m : Machine) : Type 0 where
  pub base : Machine
  pub earlier : IsLegal frames (take kept_from history) base
  pub idle : IsIdle base
  pub since : Follows base None (kept kept_from history) m

-- the entries of segments, one after another
abbrev pub entries_of : List Segment → List Entry
entries_of segments = flat_map (λ segment. segment.history.entries) segments

-- the first segment begins at this number, and each other one where the segment before it ended
abbrev pub AreNumbered : ℕ → List Segment → Type 0
AreNumbered first [] = Unit {0}
AreNumbered first (segment ∷ segments) = (segment.first ≡ first) × AreNumbered (first + length segment.history.entries) segments

-- These segments were kept after those that the receiver kept before.
abbrev pub KeepsAll : {T : Type 0} → (T → T → List Segment → Type 0) → T → T → List Segment → Type 0
KeepsAll has_kept before after segments = (first : _) (earlier : List Segment) → has_kept first before earlier → has_kept first after (earlier ++ segments)
