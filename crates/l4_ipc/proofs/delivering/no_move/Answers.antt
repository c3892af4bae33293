use Rattle.l4_ipc.proofs.Fitting.{first_lies}
use Rattle.l4_ipc.proofs.delivering.no_move.Goals as goal

pub returns : goal.returns
returns c = λ size. record { source = first_lies size; target = first_lies size }
