-- Entries that continue a legal history, with their text.
use Rattle.std.specs.Prelude.{ℕ, ◌≡◌, Bool, true, false, List, [], ◌∷◌, ◌++◌, ◌+◌, length, Option, Some, Ok}
use Rattle.l4_ipc.specs.Machine.{Machine}
use Rattle.l4_ipc.specs.Steps.{Steps}
use Rattle.l4_record.specs.declared.entries.Entry.{Entry}
use Rattle.l4_record.specs.declared.faults.ReplayFault.{ReplayFault}
use Rattle.l4_record.specs.declared.faults.ReplayFault.TheVariants.{NoMemory, BadFrames, OtherAnswer as Otherwise}
use Rattle.l4_record.specs.History.{IsSeated}
use Rattle.l4_history.specs.Histories.{mark}
use Rattle.l4_saved.specs.Stopping.{seat_after, Fails}
use Rattle.l4_saved.specs.declared.following.HistoryFault.{HistoryFault}
use Rattle.l4_saved.specs.declared.following.HistoryFault.TheVariants.{Memory, OtherAnswer}
use Rattle.l4_step_lines.specs.Answers.{answer_lines}
use Rattle.l4_step_lines.specs.Steps.{step_line}

-- the step of the entry is executed after an entry of this seat
abbrev pub Continues : Machine → Option ℕ → Entry → Machine → Type 0
Continues old last entry new = IsSeated old last entry.seat entry.step × Steps old entry.step (Ok entry.answer) new

-- why a history is not told, by why its entry is not repeated
abbrev pub history_fault : ReplayFault → HistoryFault
history_fault (Otherwise n) = OtherAnswer n
history_fault NoMemory = Memory
history_fault BadFrames = Memory

-- the line of the entry's step, and below it the lines of its answer if they are written
abbrev pub entry_text : Bool → Entry → Machine → List ℕ
entry_text false entry after = step_line entry.step
entry_text true entry after = step_line entry.step ++ answer_lines mark (Ok entry.answer) after

-- The entries are executed one after another, after an entry of the seat `last`, and this is their text.
abbrev pub IsTold : Bool → Machine → Option ℕ → List Entry → Machine → List ℕ → Type 0
IsTold answers old last [] new text = (new ≡ old) × (text ≡ [])
IsTold answers old last (entry ∷ entries) new text =
    (between : Machine) × (rest : List ℕ) × Continues old last entry between × IsTold answers between (Some entry.seat) entries new rest
    × (text ≡ entry_text answers entry between ++ rest)

-- The entries before one are executed, and this is their text. That one fails. The first entry has this number.
pub record StopsTold (answers : Bool) (old : Machine) (last : Option ℕ) (first : ℕ) (entries : List Entry) (fault : HistoryFault) (text : List ℕ) : Type 0 where
  pub earlier : List Entry
  pub entry : Entry
  pub later : List Entry
  pub entries_are : entries ≡ earlier ++ entry ∷ later
  pub before : Machine
  pub told : IsTold answers old last earlier before text
  pub fails : Fails (first + length earlier) before (seat_after last earlier) entry fault
