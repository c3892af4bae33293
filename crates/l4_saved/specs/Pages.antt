-- How a page of a thread's space got there in the history in segments (this profile's own).
use Rattle.std.specs.Prelude.{ℕ, ◌≡◌, ⊤, Bool, false, List, Option, None, Result, Ok, Err}
use Rattle.std.specs.Io.KnownBytes.{Appends}
use Rattle.l4_ipc.specs.Machine.{Machine}
use Rattle.l4_record.specs.History.{Follows}
use Rattle.l4_record.specs.Replays.{IsBootWith}
use Rattle.l4_history.specs.Telling.{IsWhy}
use Rattle.l4_history.specs.declared.asking.Presence.{Presence}
use Rattle.l4_history.specs.declared.asking.ThreadPage.{ThreadPage}
use Rattle.l4_saved.specs.Telling.{StopsAt}
use Rattle.l4_saved.specs.declared.following.HistoryFault.{HistoryFault}
use Rattle.l4_saved.specs.declared.following.HistoryFault.TheVariants.{Memory, Write, NotNext, OtherAnswer}
use Rattle.l4_segments.specs.Joining.{JoinedEntries}
use Rattle.l4_text.specs.Streams.{WentOut}

-- the entries of all segments are a legal history from boot on
pub record IsLegalSaved (j : JoinedEntries) : Type 0 where
  pub boot : Machine
  pub boots : IsBootWith j.frames j.size boot
  pub now : Machine
  pub follows : Follows boot None j.entries now

-- why they are none: an entry does not continue one, or memory ran out
abbrev pub IsRefused : JoinedEntries → HistoryFault → Type 0
IsRefused j (NotNext n) = (text : List ℕ) × StopsAt false j (NotNext n) text
IsRefused j (OtherAnswer n) = (text : List ℕ) × StopsAt false j (OtherAnswer n) text
IsRefused j Memory = ⊤
IsRefused j Write = ⊥

-- the entries are a legal history, and this is the text about the page
pub record HasPage (j : JoinedEntries) (asked : ThreadPage) (found : Presence) (text : List ℕ) : Type 0 where
  pub legal : IsLegalSaved j
  pub is_why : IsWhy j.frames j.size j.entries asked found text

-- The text about the page was written, or a prefix of it if a write failed. Nothing was written if the entries are not a legal history, or if
-- memory ran out.
abbrev pub TellsSegmentsPage : ThreadPage → JoinedEntries → Option (List ℕ) → Option (List ℕ) → Result Presence HistoryFault → Type 0
TellsSegmentsPage asked j written now (Ok found) = (text : List ℕ) × HasPage j asked found text × Appends written now text
TellsSegmentsPage asked j written now (Err Write) = (found : Presence) × (text : List ℕ) × HasPage j asked found text × WentOut written now text
TellsSegmentsPage asked j written now (Err Memory) = now ≡ written
TellsSegmentsPage asked j written now (Err (NotNext n)) = IsRefused j (NotNext n) × (now ≡ written)
TellsSegmentsPage asked j written now (Err (OtherAnswer n)) = IsRefused j (OtherAnswer n) × (now ≡ written)
