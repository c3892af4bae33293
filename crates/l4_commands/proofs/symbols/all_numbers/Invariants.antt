use Rattle.std.proofs.Common.{◌≡◌, length}
use Rattle.std.specs.List.{list_all}
use Rattle.l4_text.specs.Tokens.{tokens_of}
use Rattle.l4_commands.specs.Commands.{is_number}
use Rattle.l4_commands.proofs.symbols.all_numbers.Given as goal

abbrev pub invariant-loop-token : goal.invariant-loop-token
invariant-loop-token l = list_all is_number (tokens_of l.line) ≡ list_all is_number (tokens_of l.rest)

abbrev pub decreases-loop-token : goal.decreases-loop-token
decreases-loop-token l = length (tokens_of l.rest)
