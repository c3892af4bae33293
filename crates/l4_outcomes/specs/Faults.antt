-- Why there is no search of a text, in numbers (this profile's own).
use Rattle.std.specs.Prelude.{ℕ, List, codes}
use Rattle.l4_merges.specs.declared.machine.Failure.{Failure}
use Rattle.l4_merges.specs.declared.machine.Failure.TheVariants.{Memory, Full}
use Rattle.l4_refusals.specs.Texts.{spelled}
use Rattle.l4_orders.specs.Codes.{line_code}
use Rattle.l4_orders.specs.declared.parts.LineFault.{LineFault}
use Rattle.l4_orders.specs.declared.parts.LineFault.TheVariants.{NoThread}
use Rattle.l4_orders.specs.declared.parts.PlanFault.{PlanFault}
use Rattle.l4_orders.specs.declared.parts.PlanFault.TheVariants.{Stopped, Malformed, NoUnordered}
use Rattle.l4_outcomes.specs.declared.faults.SearchResult.{SearchResult}

-- 0, or the number of the reason why there is no search, with the thread and the line that it names
abbrev pub search_result : ℕ → ℕ → ℕ → SearchResult
search_result code thread line = record { refusal = code; detail = thread; line = line }

-- a reason with this code that names no line
abbrev pub refused_by : List ℕ → SearchResult
refused_by code = search_result (spelled code) 0 0

-- the thread that the refusal of a line names, or 0
abbrev pub line_thread : LineFault → ℕ
line_thread (NoThread thread) = thread
line_thread fault = 0

-- The result for a text that is not a plan. A text in memory can be read to its end, so memory ran out if the reading stopped.
abbrev pub fault_result : PlanFault → SearchResult
fault_result (Stopped fault) = refused_by (codes "NoMemory")
fault_result (Malformed number fault) = search_result (spelled (line_code fault)) (line_thread fault) number
fault_result NoUnordered = refused_by (codes "O6")

-- the result for a plan whose orders cannot be executed: memory ran out, or a history was full
abbrev pub failure_result : Failure → SearchResult
failure_result Memory = refused_by (codes "NoMemory")
failure_result Full = refused_by (codes "L1")
