-- The text of a history as a step list, and what is written for a script's history (this profile's own).
use Rattle.std.specs.Prelude.{ℕ, ◌≡◌, ◌≢◌, ◌⊎◌, Bool, true, false, List, [], ◌∷◌, ◌++◌, Option, Result, Ok, Err, codes}
use Rattle.std.specs.List.{flat_map}
use Rattle.std.specs.Io.KnownBytes.{Appends}
use Rattle.l4_fpage.specs.declared.sizes.PageSize.{PageSize}
use Rattle.l4_ipc.specs.Machine.{Machine, IsBoot}
use Rattle.l4_ipc.specs.Steps.{Steps}
use Rattle.l4_record.specs.declared.entries.Entry.{Entry}
use Rattle.l4_record.specs.History.{steps_of}
use Rattle.l4_sinks.specs.Scripts.{RecordsScript}
use Rattle.l4_sinks.specs.declared.scripts.Ended.{Ended}
use Rattle.l4_step_lines.specs.Answers.{answer_lines}
use Rattle.l4_step_lines.specs.Steps.{step_line}
use Rattle.l4_text.specs.Streams.{WentOut}
use Rattle.l4_text.specs.declared.faults.RunFault.{RunFault}
use Rattle.l4_text.specs.declared.faults.RunFault.TheVariants.{Read, Write, Memory}

-- the text before each answer, which makes the line a comment
abbrev pub mark : List ℕ
mark = codes "# "

-- From this machine on, the entries are executed one after another. Each has the line of its step, and below it the lines of its own answer.
abbrev pub TellsEntries : Machine → List Entry → List ℕ → Type 0
TellsEntries m [] text = text ≡ []
TellsEntries m (entry ∷ entries) text =
    (after : Machine) × (rest : List ℕ) × Steps m entry.step (Ok entry.answer) after × TellsEntries after entries rest
    × (text ≡ (step_line entry.step ++ answer_lines mark (Ok entry.answer) after) ++ rest)

-- the lines of the steps of a history from boot on, with or without their answers
abbrev pub IsHistoryText : ℕ → PageSize → Bool → List Entry → List ℕ → Type 0
IsHistoryText frames size false history text = text ≡ flat_map step_line (steps_of history)
IsHistoryText frames size true history text = (boot : Machine) × IsBoot frames boot × (boot.size ≡ size) × TellsEntries boot history text

-- a script was executed, and this is the text of its history without the entries that are left at its end
pub record HasPart (frames : ℕ) (size : PageSize) (strict answers : Bool) (old new : Option (List ℕ)) (result : Result Ended RunFault) (left : List Entry) (text : List ℕ) : Type 0 where
  pub told : List Entry
  pub records : RecordsScript frames size strict old new (told ++ left) result
  pub is_text : IsHistoryText frames size answers told text

-- a script was executed, and this is the text of its whole history
abbrev pub HasText : ℕ → PageSize → Bool → Bool → Option (List ℕ) → Option (List ℕ) → Result Ended RunFault → List ℕ → Type 0
HasText frames size strict answers old new result text = HasPart frames size strict answers old new result [] text

-- The text of the script's history was written. If a read failed, it is the history of the lines before; if a refused line ended a strict
-- script, that up to this line. If a write failed, a prefix of the text was written. If memory ran out, nothing was read or written; or, with
-- answers, the text of the entries before some that are left was written.
abbrev pub TellsHistory : ℕ → PageSize → Bool → Bool → Option (List ℕ) → Option (List ℕ) → Option (List ℕ) → Option (List ℕ) → Result Ended RunFault → Type 0
TellsHistory frames size strict answers old new written now (Ok ended) = (text : List ℕ) × HasText frames size strict answers old new (Ok ended) text × Appends written now text
TellsHistory frames size strict answers old new written now (Err Read) = (text : List ℕ) × HasText frames size strict answers old new (Err Read) text × Appends written now text
TellsHistory frames size strict answers old new written now (Err Write) =
    (read : Result Ended RunFault) × (left : List Entry) × (text : List ℕ) × HasPart frames size strict answers old new read left text × WentOut written now text
TellsHistory frames size strict answers old new written now (Err Memory) =
    ((new ≡ old) × (now ≡ written))
    ⊎ ((answers ≡ true) × (read : Result Ended RunFault) × (left : List Entry) × (left ≢ []) × (text : List ℕ)
    × HasPart frames size strict answers old new read left text × Appends written now text)
