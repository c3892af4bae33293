-- The line of a script that caused each of its steps (this profile's own).
use Rattle.std.specs.Prelude.{◌≡◌, ◌⊎◌, ℕ, ◌+◌, ◌-◌, true, List, [], ◌∷◌, ◌++◌, length, replicate, codes}
use Rattle.l4_fpage.specs.declared.sizes.PageSize.{PageSize}
use Rattle.l4_ipc.specs.Machine.{Machine, IsBoot}
use Rattle.l4_answers.specs.Reports.{Report}
use Rattle.l4_text.specs.Grammar.{TextLine, lines_of}
use Rattle.l4_commands.specs.Requests.{asked_of}
use Rattle.l4_shell.specs.Sessions.{State, first_state, AnswersLine}
use Rattle.l4_page.specs.declared.telling.Told.{Told as Answer}
use Rattle.l4_page.specs.Told.{IsTold, TellsNothing}

-- the number of a line, once for each entry that the line appended to the history
abbrev pub causes_in : State → ℕ → State → List ℕ
causes_in old number new = replicate (length new.session.history - length old.session.history) number

-- THE LINE THAT CAUSED EACH STEP: lines were answered, one after another, of which the first has this number. For each entry that they
-- appended to the history, in order, the list has the number of the line that was answered then: the entries of its own call, and those of the
-- served threads that acted after it.
abbrev pub AreCauses : State → ℕ → List TextLine → List ℕ → State → Type 0
AreCauses old number [] causes new = (causes ≡ []) × (new ≡ old)
AreCauses old number (line ∷ lines) causes new =
    (told : List Report) × (rest : List ℕ) × (between : State)
    × AnswersLine old number (asked_of old.session.machine.size old.names line) told between
    × AreCauses between (number + 1) lines rest new × (causes ≡ causes_in old number between ++ rest)

-- the numbers for all steps of the script, on a machine at boot with this number of frames of this size; or memory ran out
abbrev pub TellsCauses : ℕ → PageSize → List ℕ → List ℕ → List ℕ → Answer → Type 0
TellsCauses frames size script old new told =
    ((boot : Machine) × (causes : List ℕ) × (last : State) × IsBoot frames boot × (boot.size ≡ size)
    × AreCauses (first_state frames boot) 1 (lines_of script) causes last × IsTold causes true 0 old new told)
    ⊎ TellsNothing (codes "NoMemory") old new told
