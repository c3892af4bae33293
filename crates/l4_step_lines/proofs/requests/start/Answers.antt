use Rattle.l4_step_lines.proofs.LineNumbers.{start_none}
use Rattle.l4_step_lines.proofs.requests.start.Goals as goal

pub returns-in_err-numbers : goal.returns-in_err-numbers
returns-in_err-numbers c =
    start_none _ _ _ _ _ _ c.from_residual-in_err-numbers.ensures c.in_ok-caller.ensures c.in_ok-kind.ensures c.in_err-numbers.ensures
