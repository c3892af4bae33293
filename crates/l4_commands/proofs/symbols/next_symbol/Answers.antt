use Rattle.l4_commands.specs.Commands.{symbol_of}
use Rattle.l4_commands.proofs.InTurn.{read_number, symbol_number}
use Rattle.l4_commands.proofs.symbols.next_symbol.Goals as goal

pub returns-in-Some : goal.returns-in-Some
returns-in-Some c =
    read_number (symbol_of c.args.kind c.args.size) c.args.line.now c.in-Some.rest.now c.in-Some.value _ c.in-Some.ensures
    (λ token is. symbol_number c.args.kind c.args.size c.in-Some.value token is)
