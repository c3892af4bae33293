-- The codes of the refusals of a script's line that come before the kernel's (this profile's own).
use Rattle.std.specs.Prelude.{codes}
use Rattle.l4_answers.specs.Refusals.{Refusal, plainly, at_place, kernel_refusal}
use Rattle.l4_record.specs.declared.refusals.RecordRefusal.{RecordRefusal}
use Rattle.l4_record.specs.declared.refusals.RecordRefusal.TheVariants.{HistoryFull, NoMemory as WantOfMemory, Kernel as ByKernel}
use Rattle.l4_pager.specs.Regions.{code_of}
use Rattle.l4_servers.specs.declared.servers.RegionRefusal.{RegionRefusal}
use Rattle.l4_servers.specs.declared.servers.RegionRefusal.TheVariants.{Pager, NoMemory}
use Rattle.l4_plan.specs.declared.plans.PlanRefusal.{PlanRefusal}
use Rattle.l4_plan.specs.declared.plans.PlanRefusal.TheVariants.{Empty, OutOfSpace, NoRights, TooLong, Several, NoPart}
use Rattle.l4_commands.specs.declared.commands.ScriptFault.{ScriptFault}
use Rattle.l4_commands.specs.declared.commands.ScriptFault.TheVariants.{UnknownCommand, BadTokens, LineTooLong, CutLine}

-- the code of a line that cannot be read
abbrev pub script_refusal : ScriptFault → Refusal
script_refusal UnknownCommand = plainly (codes "S1")
script_refusal BadTokens = plainly (codes "S2")
script_refusal LineTooLong = plainly (codes "S3")
script_refusal CutLine = plainly (codes "S4")

-- The code of a delegation without a plan, or without such a message. For a plan that is too long, no pages are reported; for N5 and N6,
-- the number of messages is.
abbrev pub plan_refusal : PlanRefusal → Refusal
plan_refusal Empty = plainly (codes "N1")
plan_refusal OutOfSpace = plainly (codes "N2")
plan_refusal NoRights = plainly (codes "N3")
plan_refusal (TooLong pages) = plainly (codes "N4")
plan_refusal (Several messages) = at_place (codes "N5") messages
plan_refusal (NoPart messages) = at_place (codes "N6") messages

-- a name is one more than a script can have
abbrev pub too_many_names : Refusal
too_many_names = plainly (codes "S5")

-- an allocation failed
abbrev pub lacks_memory : Refusal
lacks_memory = plainly (codes "NoMemory")

-- the code of a call that is not entered; for a refusal of the kernel, that of the lowest layer
abbrev pub call_refusal : RecordRefusal → Refusal
call_refusal HistoryFull = plainly (codes "L1")
call_refusal WantOfMemory = lacks_memory
call_refusal (ByKernel refusal) = kernel_refusal refusal

-- the code of a region that is not added; for a refusal of the pager's table, that of the table
abbrev pub region_refusal : RegionRefusal → Refusal
region_refusal (Pager refusal) = plainly (code_of refusal)
region_refusal NoMemory = lacks_memory
