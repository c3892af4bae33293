use Rattle.std.proofs.Common.{◌≡◌, ◌+◌, ◌*◌, ◌++◌, length, take}
use Rattle.l4_text.specs.Texts.{words_text}
use Rattle.l4_c_values.proofs.lines.add_words.Given as goal

abbrev pub invariant-loop-word : goal.invariant-loop-word
invariant-loop-word l =
    (l.line.items ≡ l.initial.line.items ++ words_text (take l.word-index l.words))
    × (length l.line.items ≡ length l.initial.line.items + 9 * l.word-index)
