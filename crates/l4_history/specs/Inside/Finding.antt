-- What is found of a page, as data.
use Rattle.std.specs.Prelude.{ℕ, ◌≡◌, List, Some, None}
use Rattle.l4_fpage.specs.declared.sizes.PageSize.{PageSize}
use Rattle.l4_mapdb.specs.declared.Place.{Place}
use Rattle.l4_mapdb.specs.Mappings.{shown}
use Rattle.l4_threads.specs.declared.Thread.{Thread}
use Rattle.l4_threads.specs.Threads.{thread_at}
use Rattle.l4_ipc.specs.Machine.{Machine, IsBoot}
use Rattle.l4_ipc.specs.Runs.{Run}
use Rattle.l4_record.specs.declared.entries.Entry.{Entry}
use Rattle.l4_record.specs.History.{steps_of, answers_of}
use Rattle.l4_record.specs.Chains.{IsProvenance, IsAbsent}
use Rattle.l4_record.specs.Replays.{IsBootWith}
use Rattle.l4_history.specs.Chains.{chain_text}
use Rattle.l4_history.specs.Absences.{absent_text}
use Rattle.l4_history.specs.Telling.{unknown_text, IsGone}
use Rattle.l4_history.specs.declared.asking.ThreadPage.{ThreadPage}
use Rattle.l4_history.specs.declared.asking.Presence.{Presence}
use Rattle.l4_history.specs.declared.asking.Presence.TheVariants as is
use Rattle.l4_history.specs.declared.asking.Answer.{Answer}
use Rattle.l4_history.specs.declared.asking.Answer.TheVariants.{Unknown, Absent, Chain}

abbrev pub presence : Answer → Presence
presence Unknown = is.NoThread
presence (Absent removed) = is.Absent
presence (Chain place links shows) = is.Present

abbrev pub answer_text : List Entry → Answer → List ℕ
answer_text history Unknown = unknown_text
answer_text history (Absent removed) = absent_text history removed
answer_text history (Chain place links shows) = chain_text history links.items place shows

-- the thread is there at the end, and this is the page of its space
abbrev pub IsOfThread : Machine → ThreadPage → Place → Type 0
IsOfThread now asked place = (thread : Thread) × (thread_at now.threads asked.thread ≡ Some thread) × (place ≡ record { space = thread.space; page = asked.page })

-- the answer holds of this boot and this end
abbrev pub Holds : Machine → Machine → List Entry → ThreadPage → Answer → Type 0
Holds boot now history asked Unknown = thread_at now.threads asked.thread ≡ None
Holds boot now history asked (Absent removed) = (place : Place) × IsOfThread now asked place × IsAbsent boot history place × IsGone boot history place removed
Holds boot now history asked (Chain place links shows) =
    IsOfThread now asked place × IsProvenance boot history place links.items × (shown now.mappings place ≡ Some shows)

-- the answer holds of the history
pub record IsAnswer (frames : ℕ) (size : PageSize) (history : List Entry) (asked : ThreadPage) (answer : Answer) : Type 0 where
  pub boot : Machine
  pub boots : IsBoot frames boot
  pub size_is : boot.size ≡ size
  pub now : Machine
  pub run : Run boot (steps_of history) (answers_of history) now
  pub holds : Holds boot now history asked answer

-- the answer about a page that is not present says which step removed it, on a kernel that booted like this
abbrev pub IsLookedBack : ℕ → PageSize → List Entry → Place → Answer → Type 0
IsLookedBack frames size history place (Absent removed) = (boot : Machine) × IsBootWith frames size boot × IsGone boot history place removed
IsLookedBack frames size history place Unknown = ⊥
IsLookedBack frames size history place (Chain other links shows) = ⊥
