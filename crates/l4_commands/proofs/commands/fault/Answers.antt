use Rattle.std.proofs.Common.{rules}
use Rattle.l4_commands.proofs.commands.fault.Goals as goal

pub returns-in_err-number : goal.returns-in_err-number
returns-in_err-number c = λ size. let e = c.read_fault.ensures size in search rules

pub returns : goal.returns
returns c = λ size. let e = c.read_fault.ensures size in search rules
