use Rattle.std.proofs.Common.{sym}
use Rattle.l4_step_lines.proofs.LineNumbers.{request_none}
use Rattle.l4_step_lines.proofs.requests.read_request.Goals as goal

pub returns-in_err-numbers : goal.returns-in_err-numbers
returns-in_err-numbers c =
    request_none _ _ _ _ c.from_residual-in_err-numbers.ensures c.in_ok-name.ensures (sym c.if-eq.ensures) c.in_err-numbers.ensures
