-- The history in segments as text (this profile's own).
use Rattle.std.specs.Prelude.{ℕ, ◌≡◌, ◌⊎◌, ◌+◌, Bool, List, ◌∷◌, ◌++◌, length, Option, None, Result, Ok, Err}
use Rattle.std.specs.Io.KnownBytes.{Appends}
use Rattle.l4_fpage.specs.declared.sizes.PageSize.{PageSize}
use Rattle.l4_ipc.specs.Machine.{Machine}
use Rattle.l4_record.specs.declared.entries.Entry.{Entry}
use Rattle.l4_record.specs.History.{Follows}
use Rattle.l4_record.specs.Replays.{IsBootWith}
use Rattle.l4_history.specs.Histories.{IsHistoryText}
use Rattle.l4_saved.specs.Stopping.{seat_after, Fails}
use Rattle.l4_saved.specs.declared.following.HistoryFault.{HistoryFault}
use Rattle.l4_saved.specs.declared.following.HistoryFault.TheVariants.{Memory, Write, NotNext, OtherAnswer}
use Rattle.l4_segments.specs.Joining.{JoinedEntries}
use Rattle.l4_text.specs.Streams.{WentOut}

-- the entries are a legal history from boot on, which leads to the last machine, and this is its text
pub record IsLegalText (frames : ℕ) (size : PageSize) (answers : Bool) (entries : List Entry) (now : Machine) (text : List ℕ) : Type 0 where
  pub boot : Machine
  pub boots : IsBootWith frames size boot
  pub follows : Follows boot None entries now
  pub is_text : IsHistoryText frames size answers entries text

-- the entries before one are a legal history, with this text; that one does not continue it
pub record StopsAt (answers : Bool) (j : JoinedEntries) (fault : HistoryFault) (text : List ℕ) : Type 0 where
  pub earlier : List Entry
  pub entry : Entry
  pub later : List Entry
  pub entries_are : j.entries ≡ earlier ++ entry ∷ later
  pub before : Machine
  pub legal : IsLegalText j.frames j.size answers earlier before text
  pub fails : Fails (j.first + length earlier) before (seat_after None earlier) entry fault

-- a prefix of the text of the first entries was written
pub record HasBegun (answers : Bool) (j : JoinedEntries) (written now : Option (List ℕ)) : Type 0 where
  pub told : List Entry
  pub left : List Entry
  pub entries_are : j.entries ≡ told ++ left
  pub last : Machine
  pub text : List ℕ
  pub legal : IsLegalText j.frames j.size answers told last text
  pub out : WentOut written now text

-- The entries of all segments are a legal history, whose text was written. Or one of them does not continue such a history, and the text of
-- the entries before it was written. Or a write failed, and a prefix of the text was written. If there was no memory at the start, nothing was
-- written.
abbrev pub TellsSegments : Bool → JoinedEntries → Option (List ℕ) → Option (List ℕ) → Result (Unit {0}) HistoryFault → Type 0
TellsSegments answers j written now (Ok done) =
    (last : Machine) × (text : List ℕ) × IsLegalText j.frames j.size answers j.entries last text × Appends written now text
TellsSegments answers j written now (Err Write) = HasBegun answers j written now
TellsSegments answers j written now (Err Memory) = (now ≡ written) ⊎ ((text : List ℕ) × StopsAt answers j Memory text × Appends written now text)
TellsSegments answers j written now (Err (NotNext n)) = (text : List ℕ) × StopsAt answers j (NotNext n) text × Appends written now text
TellsSegments answers j written now (Err (OtherAnswer n)) = (text : List ℕ) × StopsAt answers j (OtherAnswer n) text × Appends written now text
