use Rattle.std.proofs.Common.{◌≡◌, length}
use Rattle.l4_text.specs.Tokens.{tokens_of}
use Rattle.l4_symbols.specs.Rows.{row_in, message_words_in}
use Rattle.l4_commands.proofs.MessageWords.{words_after}
use Rattle.l4_commands.proofs.symbols.message_of.Given as goal

abbrev pub invariant-loop-token : goal.invariant-loop-token
invariant-loop-token l =
    (l.message.message.size ≡ l.fn.size)
    × (message_words_in l.fn.size (tokens_of l.line) ≡ words_after l.fn.size (row_in l.message) (tokens_of l.rest))

abbrev pub decreases-loop-token : goal.decreases-loop-token
decreases-loop-token l = length (tokens_of l.rest)
