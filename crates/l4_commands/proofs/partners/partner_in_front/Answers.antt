use Rattle.std.proofs.Common.{None, arith}
use Rattle.l4_commands.specs.Commands.{partner_of}
use Rattle.l4_commands.proofs.InTurn.{read_number, partner_few, partner_many}
use Rattle.l4_commands.proofs.partners.partner_in_front.Goals as goal

pub returns-then-value-ge262144 : goal.returns-then-value-ge262144
returns-then-value-ge262144 c =
    read_number (partner_of c.args.names.now) c.args.line.now c.in-Some.rest.now c.in-Some.value None c.in-Some.ensures (λ token is. partner_many c.args.names.now c.in-Some.value token (omega (arith, c.if-value-ge262144.true)) is)

pub returns-in-Some : goal.returns-in-Some
returns-in-Some c =
    read_number (partner_of c.args.names.now) c.args.line.now c.in-Some.rest.now c.in-Some.value _ c.in-Some.ensures (λ token is. partner_few c.args.names.now c.in-Some.value token (omega (arith, c.if-value-ge262144.false)) is)
