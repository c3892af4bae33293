use Rattle.std.proofs.Common.{rules}
use Rattle.l4_commands.proofs.commands.pager_command.Goals as goal

pub returns-then-is_fault : goal.returns-then-is_fault
returns-then-is_fault c = λ size. let e = c.fault.ensures size in search rules

pub returns-then-eq : goal.returns-then-eq
returns-then-eq c = λ size. let e = c.add_region.ensures size in search rules

pub returns-then-eq-2 : goal.returns-then-eq-2
returns-then-eq-2 c = λ size. let e = c.serve.ensures size in search rules

pub returns-then-is_name : goal.returns-then-is_name
returns-then-is_name c = λ size. let e = c.give_name.ensures size in search rules

pub returns-then-eq-3 : goal.returns-then-eq-3
returns-then-eq-3 c = λ size. let e = c.reply.ensures size in search rules

pub returns-then-is_timeout : goal.returns-then-is_timeout
returns-then-is_timeout c = λ size. let e = c.timeout.ensures size in search rules

pub returns-then-is_cancel : goal.returns-then-is_cancel
returns-then-is_cancel c = λ size. let e = c.cancel.ensures size in search rules

pub returns-then-eq-4 : goal.returns-then-eq-4
returns-then-eq-4 c = λ size. let e = c.steps.ensures size c.args.names.now in search rules

pub returns : goal.returns
returns c = λ size. let e = c.part_command.ensures size c.args.names.now in search rules
