-- The results of step lists (this profile's own).
use Rattle.std.specs.Prelude.{◌≡◌, ◌⊎◌, ℕ, Bool, true, false, List, [], Some, Result, Ok, Err, codes}
use Rattle.l4_fpage.specs.declared.sizes.PageSize.{PageSize}
use Rattle.l4_step_lines.specs.Lists.{Runs}
use Rattle.l4_step_lines.specs.declared.running.Fault.{Fault}
use Rattle.l4_step_lines.specs.declared.running.Fault.TheVariants.{Stopped, Cut, Long, Unread}
use Rattle.l4_page.specs.declared.telling.Told.{Told as Answer}
use Rattle.l4_page.specs.Told.{IsTold, TellsNothing}

-- whether a list was answered to its end, and the number of the line that ended it, or 0
abbrev pub IsEnd : Result (Unit {0}) Fault → Bool → ℕ → Type 0
IsEnd (Ok u) whole line = (whole ≡ true) × (line ≡ 0)
IsEnd (Err (Cut number)) whole line = (whole ≡ false) × (line ≡ number)
IsEnd (Err (Long number)) whole line = (whole ≡ false) × (line ≡ number)
IsEnd (Err (Unread number reason)) whole line = (whole ≡ false) × (line ≡ number)
IsEnd (Err (Stopped fault)) whole line = ⊥

-- THE RESULT OF A STEP LIST: the text of the answers to its lines, up to the first line that cannot be read, and the number of that line;
-- or memory ran out
abbrev pub TellsList : ℕ → PageSize → List ℕ → List ℕ → List ℕ → Answer → Type 0
TellsList frames size list old new told =
    ((rest : List ℕ) × (text : List ℕ) × (ended : Result (Unit {0}) Fault) × (whole : Bool) × (line : ℕ)
    × Runs frames size (Some list) (Some rest) (Some []) (Some text) ended × IsEnd ended whole line × IsTold text whole line old new told)
    ⊎ TellsNothing (codes "NoMemory") old new told
