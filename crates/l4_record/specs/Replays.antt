-- Why a history cannot be replayed (this profile's own).
use Rattle.std.specs.Prelude.{◌≡◌, ◌≢◌, ℕ, ◌<◌, ◌≤◌, ◌⊎◌, List, ◌∷◌, ◌++◌, length, slice_get, Some, Result, Ok, Err}
use Rattle.l4_fpage.specs.Pages.{max_frames}
use Rattle.l4_fpage.specs.declared.sizes.PageSize.{PageSize}
use Rattle.l4_ipc.specs.declared.steps.Answer.{Answer}
use Rattle.l4_ipc.specs.declared.steps.Lower.TheVariants.{NoMemory as LowerNoMemory}
use Rattle.l4_ipc.specs.declared.steps.Outcome.TheVariants.{NoMemory as MemoryOutcome}
use Rattle.l4_ipc.specs.declared.steps.Refused.{Refused}
use Rattle.l4_ipc.specs.declared.steps.Refused.TheVariants.{Lower}
use Rattle.l4_ipc.specs.Machine.{Machine, IsBoot}
use Rattle.l4_ipc.specs.Runs.{Run}
use Rattle.l4_ipc.specs.Steps.{Steps}
use Rattle.l4_record.specs.declared.entries.Entry.{Entry}
use Rattle.l4_record.specs.History.{steps_of, answers_of}
use Rattle.l4_record.specs.declared.faults.ReplayFault.{ReplayFault}
use Rattle.l4_record.specs.declared.faults.ReplayFault.TheVariants.{BadFrames, NoMemory, OtherAnswer}

-- the kernel as it boots with this number of frames, from 1 to 4,096, and with pages of this size
abbrev pub IsBootWith : ℕ → PageSize → Machine → Type 0
IsBootWith frames size boot = IsBoot frames boot × (boot.size ≡ size)

-- from boot on, each step of the history gets the answer that the history says
abbrev pub IsReplayed : Machine → List Entry → Type 0
IsReplayed boot history = (now : Machine) × Run boot (steps_of history) (answers_of history) now

-- memory ran out in a step that got this answer or refusal
abbrev pub RanOut : Result Answer Refused → Type 0
RanOut (Ok answer) = answer.outcome ≡ MemoryOutcome
RanOut (Err refused) = refused ≡ Lower LowerNoMemory

-- The step of the entry with this number gets another answer than the history says. The fault says whether memory ran out in the step.
pub record FailsAt (number : ℕ) (before : Machine) (entry : Entry) (after : Machine) (fault : ReplayFault) : Type 0 where
  pub answer : Result Answer Refused
  pub step : Steps before entry.step answer after
  pub other : answer ≢ Ok entry.answer
  pub why : (RanOut answer × (fault ≡ NoMemory)) ⊎ (¬ (RanOut answer) × (fault ≡ OtherAnswer number))

-- The entries before one lead from boot to a machine at which that entry fails. Its step, with the other answer, leads to the last machine.
pub record StopsIn (boot : Machine) (history : List Entry) (after : Machine) (fault : ReplayFault) : Type 0 where
  pub earlier : List Entry
  pub entry : Entry
  pub later : List Entry
  pub history_is : history ≡ earlier ++ entry ∷ later
  pub before : Machine
  pub run : Run boot (steps_of earlier) (answers_of earlier) before
  pub fails : FailsAt (length earlier) before entry after fault

-- why the history is not replayed: the number of frames is out of range, memory ran out, or a step in which memory did not run out got another answer
abbrev pub IsNotReplayed : ℕ → PageSize → List Entry → ReplayFault → Type 0
IsNotReplayed frames size history BadFrames = (frames ≡ 0) ⊎ (max_frames < frames)
IsNotReplayed frames size history NoMemory = (1 ≤ frames) × (frames ≤ max_frames)
IsNotReplayed frames size history (OtherAnswer number) =
    (boot : Machine) × IsBootWith frames size boot × ((after : Machine) × StopsIn boot history after (OtherAnswer number))

-- The same for a kernel that boots like the one on which the history was recorded. Another answer is reported only for an entry in which memory ran out.
pub record IsNotRepeated (frames : ℕ) (size : PageSize) (history : List Entry) (fault : ReplayFault) : Type 0 where
  pub is : IsNotReplayed frames size history fault
  pub ran_out : (number : ℕ) → fault ≡ OtherAnswer number → (entry : Entry) × (slice_get history number ≡ Some entry) × RanOut (Ok entry.answer)
