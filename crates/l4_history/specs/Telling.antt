-- How a page of a thread's space got there, as it is written for a script (this profile's own).
use Rattle.std.specs.Prelude.{ℕ, ◌≡◌, Bool, List, ◌++◌, Option, Some, None, Result, Ok, Err, codes}
use Rattle.std.specs.Io.KnownBytes.{Appends}
use Rattle.l4_fpage.specs.declared.sizes.PageSize.{PageSize}
use Rattle.l4_mapdb.specs.declared.Mapping.{Mapping}
use Rattle.l4_mapdb.specs.declared.Place.{Place}
use Rattle.l4_mapdb.specs.Mappings.{shown}
use Rattle.l4_threads.specs.declared.Thread.{Thread}
use Rattle.l4_threads.specs.Threads.{thread_at}
use Rattle.l4_ipc.specs.Machine.{Machine, IsBoot}
use Rattle.l4_ipc.specs.Runs.{Run}
use Rattle.l4_record.specs.declared.entries.Entry.{Entry}
use Rattle.l4_record.specs.History.{steps_of, answers_of}
use Rattle.l4_record.specs.declared.links.ChainLink.{ChainLink}
use Rattle.l4_record.specs.Chains.{IsProvenance, IsAbsent}
use Rattle.l4_provenance.specs.Removals.{WasNeverPresent, WasRemoved}
use Rattle.l4_sinks.specs.Scripts.{RecordsScript}
use Rattle.l4_sinks.specs.declared.scripts.Ended.{Ended}
use Rattle.l4_text.specs.Streams.{WentOut}
use Rattle.l4_text.specs.declared.faults.RunFault.{RunFault}
use Rattle.l4_text.specs.declared.faults.RunFault.TheVariants.{Read, Write, Memory}
use Rattle.l4_answers.specs.Replies.{newline}
use Rattle.l4_history.specs.Absences.{absent_text}
use Rattle.l4_history.specs.Chains.{chain_text}
use Rattle.l4_history.specs.declared.asking.ThreadPage.{ThreadPage}
use Rattle.l4_history.specs.declared.asking.Question.{Question}
use Rattle.l4_history.specs.declared.asking.WhyResult.{WhyResult}
use Rattle.l4_history.specs.declared.asking.WhyResult.TheVariants.{Told, Refused}
use Rattle.l4_history.specs.declared.asking.Presence.{Presence}
use Rattle.l4_history.specs.declared.asking.Presence.TheVariants.{Present, Absent, NoThread}

-- the text for a thread that does not exist
abbrev pub unknown_text : List ℕ
unknown_text = codes "refused K2" ++ newline

-- the step that removed the page, if it was present before: the one of the entry with this number
abbrev pub IsGone : Machine → List Entry → Place → Option ℕ → Type 0
IsGone boot history place None = WasNeverPresent boot history place
IsGone boot history place (Some number) = WasRemoved boot history place number

-- the page is not present at the end, and this is the text about it
pub record IsAbsentText (boot : Machine) (history : List Entry) (place : Place) (text : List ℕ) : Type 0 where
  pub absent : IsAbsent boot history place
  pub removed : Option ℕ
  pub gone : IsGone boot history place removed
  pub is_text : text ≡ absent_text history removed

-- the links are the provenance of the place in the history, the place has this mapping at the end, and this is their text
pub record IsChainText (boot now : Machine) (history : List Entry) (place : Place) (text : List ℕ) : Type 0 where
  pub links : List ChainLink
  pub provenance : IsProvenance boot history place links
  pub shows : Mapping
  pub at : shown now.mappings place ≡ Some shows
  pub is_text : text ≡ chain_text history links place shows

-- the text for a place: its chain, or that it is absent and which step removed it
abbrev pub IsPlaceText : Machine → Machine → List Entry → Place → Presence → List ℕ → Type 0
IsPlaceText boot now history place Present text = IsChainText boot now history place text
IsPlaceText boot now history place Absent text = IsAbsentText boot history place text
IsPlaceText boot now history place NoThread text = ⊥

-- the text for a page of a thread's space, if the thread exists at the end
abbrev pub IsThreadText : Machine → Machine → List Entry → Option Thread → ℕ → Presence → List ℕ → Type 0
IsThreadText boot now history None page found text = (found ≡ NoThread) × (text ≡ unknown_text)
IsThreadText boot now history (Some thread) page found text = IsPlaceText boot now history (record { space = thread.space; page = page }) found text

-- Whether the space of the requested thread has the page at the end of the history, and the text about it.
pub record IsWhy (frames : ℕ) (size : PageSize) (history : List Entry) (asked : ThreadPage) (found : Presence) (text : List ℕ) : Type 0 where
  pub boot : Machine
  pub boots : IsBoot frames boot
  pub size_is : boot.size ≡ size
  pub now : Machine
  pub run : Run boot (steps_of history) (answers_of history) now
  pub is_text : IsThreadText boot now history (thread_at now.threads asked.thread) asked.page found text

-- The text about the page was written, or a prefix of it if a write failed. Nothing was written if memory ran out.
abbrev pub TellsPage : ℕ → PageSize → List Entry → ThreadPage → Option (List ℕ) → Option (List ℕ) → Result Presence RunFault → Type 0
TellsPage frames size history asked written now (Ok found) = (text : List ℕ) × IsWhy frames size history asked found text × Appends written now text
TellsPage frames size history asked written now (Err Write) =
    (found : Presence) × (text : List ℕ) × IsWhy frames size history asked found text × WentOut written now text
TellsPage frames size history asked written now (Err Memory) = now ≡ written
TellsPage frames size history asked written now (Err Read) = ⊥

-- a script was executed to its end, and this is the text about the page
pub record HasWhy (frames : ℕ) (size : PageSize) (question : Question) (old new : Option (List ℕ)) (found : Presence) (text : List ℕ) : Type 0 where
  pub history : List Entry
  pub ended : Ended
  pub records : RecordsScript frames size question.strict old new history (Ok ended)
  pub to_end : ended.refused ≡ None
  pub is_why : IsWhy frames size history question.page found text

-- a refused line ended a strict script, for this reason, and nothing was written
pub record HasRefused (frames : ℕ) (size : PageSize) (strict : Bool) (old new written now : Option (List ℕ)) (reason : List ℕ) : Type 0 where
  pub history : List Entry
  pub ended : Ended
  pub records : RecordsScript frames size strict old new history (Ok ended)
  pub refused : ended.refused ≡ Some reason
  pub unwritten : now ≡ written

-- the lines of a script before a read that failed were executed, and nothing was written
pub record HasStopped (frames : ℕ) (size : PageSize) (strict : Bool) (old new written now : Option (List ℕ)) : Type 0 where
  pub history : List Entry
  pub records : RecordsScript frames size strict old new history (Err Read)
  pub unwritten : now ≡ written

-- a prefix of the text was written
pub record HasBegun (frames : ℕ) (size : PageSize) (question : Question) (old new written now : Option (List ℕ)) : Type 0 where
  pub found : Presence
  pub text : List ℕ
  pub has_why : HasWhy frames size question old new found text
  pub out : WentOut written now text

-- The text about a script that was read to its end was written, or a prefix of it if a write failed. Nothing was written if a refused line ended
-- a strict script, a read failed, or memory ran out.
abbrev pub TellsWhy : ℕ → PageSize → Question → Option (List ℕ) → Option (List ℕ) → Option (List ℕ) → Option (List ℕ) → Result WhyResult RunFault → Type 0
TellsWhy frames size question old new written now (Ok (Told found)) =
    (text : List ℕ) × HasWhy frames size question old new found text × Appends written now text
TellsWhy frames size question old new written now (Ok (Refused reason)) = HasRefused frames size question.strict old new written now reason
TellsWhy frames size question old new written now (Err Read) = HasStopped frames size question.strict old new written now
TellsWhy frames size question old new written now (Err Write) = HasBegun frames size question old new written now
TellsWhy frames size question old new written now (Err Memory) = now ≡ written
