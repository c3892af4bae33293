use Rattle.std.proofs.Common.{◌≡◌, ◌+◌, ◌++◌, length, option_map, length}
use Rattle.arrayvec.specs.ArrayVec.{array_vec_len}
use Rattle.l4_text.specs.Tokens.{tokens_of}
use Rattle.l4_text.specs.Grammar.{numbers_of}
use Rattle.l4_step_lines.proofs.numbers.numbers.Given as goal

abbrev pub invariant-loop-count : goal.invariant-loop-count
invariant-loop-count l =
    (array_vec_len l.numbers ≡ l.count)
    × (length (tokens_of l.line) ≡ l.count + length (tokens_of l.rest))
    × (numbers_of (tokens_of l.line) ≡ option_map (λ ns. l.numbers.items ++ ns) (numbers_of (tokens_of l.rest)))
