use Rattle.std.proofs.Common.{true, false}
use Rattle.l4_ipc.proofs.Starts.{canceled}
use Rattle.l4_ipc.proofs.acting.cancel.Goals as goal

pub returns-then-end_wait : goal.returns-then-end_wait
returns-then-end_wait c = λ size s.
    canceled size c.args.threads.now c.end_wait.new.threads s c.args.number c.cause_error.result c.args.cause true c.cause_error.ensures.value c.if-end_wait.ensures

pub returns : goal.returns
returns c = λ size s.
    canceled size c.args.threads.now c.end_wait.new.threads s c.args.number c.cause_error.result c.args.cause false c.cause_error.ensures.value c.if-end_wait.ensures
