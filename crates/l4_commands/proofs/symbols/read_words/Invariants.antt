use Rattle.std.proofs.Common.{◌≡◌}
use Rattle.arrayvec.specs.ArrayVec.{array_vec_len}
use Rattle.l4_text.specs.Tokens.{tokens_of}
use Rattle.l4_symbols.specs.Rows.{message_words_in}
use Rattle.l4_commands.proofs.MessageWords.{words_from}
use Rattle.l4_commands.proofs.symbols.read_words.Given as goal

abbrev pub invariant-loop-count : goal.invariant-loop-count
invariant-loop-count l =
    (array_vec_len l.words ≡ l.count)
    × (message_words_in l.size (tokens_of l.line) ≡ words_from l.size l.words.items (tokens_of l.rest))
