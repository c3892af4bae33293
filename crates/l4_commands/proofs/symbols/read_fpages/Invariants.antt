use Rattle.std.proofs.Common.{◌≡◌, ◌+◌, length}
use Rattle.arrayvec.specs.ArrayVec.{array_vec_len}
use Rattle.l4_text.specs.Tokens.{tokens_of}
use Rattle.l4_commands.specs.Commands.{each_fpage}
use Rattle.l4_commands.proofs.MessageWords.{fpages_from}
use Rattle.l4_commands.proofs.symbols.read_fpages.Given as goal

abbrev pub invariant-loop-place : goal.invariant-loop-place
invariant-loop-place l =
    (array_vec_len l.fpages ≡ l.place)
    × (length (tokens_of l.line) ≡ l.place + length (tokens_of l.rest))
    × (each_fpage l.size (tokens_of l.line) ≡ fpages_from l.size l.fpages.items (tokens_of l.rest))
