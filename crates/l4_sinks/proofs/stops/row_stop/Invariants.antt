use Rattle.std.proofs.Common.{◌≡◌, ◌+◌, ◌≤◌, length}
use Rattle.l4_text.specs.Tokens.{tokens_of}
use Rattle.l4_symbols.specs.Rows.{row_in, row_len}
use Rattle.l4_sinks.specs.Stops.{row_stop}
use Rattle.l4_sinks.proofs.stops.row_stop.Given as goal

-- each token adds a word at least, and a message has at most 63 words behind its tag: so the number of a token fits
abbrev pub invariant-loop-token : goal.invariant-loop-token
invariant-loop-token l =
    (l.place ≤ l.first + row_len (row_in l.message))
    × (l.message.message.size ≡ l.fn.begun.message.size)
    × (row_stop l.fn.begun.message.size l.first (tokens_of l.line) (row_in l.fn.begun) ≡ row_stop l.fn.begun.message.size l.place (tokens_of l.rest) (row_in l.message))

abbrev pub decreases-loop-token : goal.decreases-loop-token
decreases-loop-token l = length (tokens_of l.rest)
