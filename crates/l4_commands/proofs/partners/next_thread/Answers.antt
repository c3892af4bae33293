use Rattle.std.proofs.Common.{None, arith}
use Rattle.l4_commands.specs.Commands.{thread_of}
use Rattle.l4_commands.proofs.InTurn.{read_number, thread_few, thread_many}
use Rattle.l4_commands.proofs.partners.next_thread.Goals as goal

pub returns-then-value-ge262144 : goal.returns-then-value-ge262144
returns-then-value-ge262144 c =
    read_number (thread_of c.args.names.now) c.args.line.now c.in-Some.rest.now c.in-Some.value None c.in-Some.ensures (λ token is. thread_many c.args.names.now c.in-Some.value token (omega (arith, c.if-value-ge262144.true)) is)

pub returns-in-Some : goal.returns-in-Some
returns-in-Some c =
    read_number (thread_of c.args.names.now) c.args.line.now c.in-Some.rest.now c.in-Some.value _ c.in-Some.ensures (λ token is. thread_few c.args.names.now c.in-Some.value token (omega (arith, c.if-value-ge262144.false)) is)
