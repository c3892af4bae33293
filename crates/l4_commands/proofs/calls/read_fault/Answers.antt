use Rattle.std.proofs.Common.{rules}
use Rattle.l4_commands.proofs.calls.read_fault.Goals as goal

-- the tokens of a fault are read for every size

pub returns-in_err-number : goal.returns-in_err-number
returns-in_err-number c = λ size. let e = c.fault_parts.ensures size in search rules

pub returns : goal.returns
returns c = λ size. let e = c.fault_parts.ensures size in search rules
