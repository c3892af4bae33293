-- The exit status of l4_steps, by how its list ended (this profile's own).
use Rattle.std.specs.Prelude.{ℕ, Result, Ok, Err}
use Rattle.l4_programs.specs.Statuses.{run_status}
use Rattle.l4_step_lines.specs.declared.running.Fault.{Fault}
use Rattle.l4_step_lines.specs.declared.running.Fault.TheVariants.{Stopped}

-- 0 at the end of the list, 2 where a line is invalid
abbrev pub list_status : Result (Unit {0}) Fault → ℕ
list_status (Ok done) = 0
list_status (Err (Stopped fault)) = run_status fault
list_status (Err fault) = 2
