-- The results of scripts (this profile's own).
use Rattle.std.specs.Prelude.{◌≡◌, ◌⊎◌, ℕ, Bool, true, false, List, [], Some, Ok, codes}
use Rattle.l4_fpage.specs.declared.sizes.PageSize.{PageSize}
use Rattle.l4_record.specs.declared.segments.NoSegments.{NoSegments}
use Rattle.l4_record.specs.declared.segments.Segment.{Segment}
use Rattle.l4_sinks.specs.Scripts.{RunsScript}
use Rattle.l4_sinks.specs.declared.scripts.Ended.{Ended}
use Rattle.l4_history.specs.Histories.{HasText}
use Rattle.l4_history.specs.Telling.{HasWhy}
use Rattle.l4_history.specs.Annotations.{AnnotatesScript}
use Rattle.l4_history.specs.declared.annotating.Annotations.{Annotations}
use Rattle.l4_history.specs.declared.asking.ThreadPage.{ThreadPage}
use Rattle.l4_history.specs.declared.asking.Presence.{Presence}
use Rattle.l4_history.specs.declared.asking.Presence.TheVariants.{Present, Absent, NoThread}
use Rattle.l4_page.specs.declared.telling.Told.{Told as Answer}
use Rattle.l4_page.specs.Told.{IsTold, TellsNothing}

-- a run whose history stays with the kernel
abbrev pub keeps_none : NoSegments → NoSegments → List Segment → Type 0
keeps_none first now segments = segments ≡ []

abbrev pub none : NoSegments
none = record {}

-- THE RESULT OF A RUN that is not strict: the text of the answers to all lines of the script, explained or not, and the number of lines;
-- or memory ran out
abbrev pub TellsAnswers : ℕ → PageSize → Bool → List ℕ → List ℕ → List ℕ → Answer → Type 0
TellsAnswers frames size explain script old new told =
    ((rest : List ℕ) × (text : List ℕ) × (ended : Ended)
    × RunsScript false frames size false explain (Some script) (Some rest) (Some []) (Some text) keeps_none none none (Ok ended)
    × IsTold text true ended.lines old new told)
    ⊎ TellsNothing (codes "NoMemory") old new told

-- numbers and moves, in a run that is neither strict nor explained
abbrev pub numbers_and_moves : Annotations
numbers_and_moves = record { style = record { strict = false; explain = false }; number = true; moves = true }

-- the text of the answers to all lines, with the numbers of the lines and the pages that transfers moved
abbrev pub TellsAnnotated : ℕ → PageSize → List ℕ → List ℕ → List ℕ → Answer → Type 0
TellsAnnotated frames size script old new told =
    ((rest : List ℕ) × (text : List ℕ) × (ended : Ended) × AnnotatesScript frames size numbers_and_moves (Some script) (Some rest) (Some []) (Some text) (Ok ended)
    × IsTold text true ended.lines old new told)
    ⊎ TellsNothing (codes "NoMemory") old new told

-- the text of the script's history
abbrev pub TellsHistoryOf : ℕ → PageSize → Bool → List ℕ → List ℕ → List ℕ → Answer → Type 0
TellsHistoryOf frames size answers script old new told =
    ((rest : List ℕ) × (ended : Ended) × (text : List ℕ) × HasText frames size false answers (Some script) (Some rest) (Ok ended) text
    × IsTold text true ended.lines old new told)
    ⊎ TellsNothing (codes "NoMemory") old new told

abbrev pub is_there : Presence → Bool
is_there Present = true
is_there Absent = false
is_there NoThread = false

-- the text that says how a page got to where it is
abbrev pub TellsWhyOf : ℕ → PageSize → ThreadPage → List ℕ → List ℕ → List ℕ → Answer → Type 0
TellsWhyOf frames size asked script old new told =
    ((rest : List ℕ) × (found : Presence) × (text : List ℕ) × HasWhy frames size (record { page = asked; strict = false }) (Some script) (Some rest) found text
    × IsTold text (is_there found) 0 old new told)
    ⊎ TellsNothing (codes "NoMemory") old new told
