use Rattle.std.proofs.Common.{◌≡◌, ◌+◌, ◌*◌, ◌++◌, length, take}
use Rattle.l4_text.specs.Texts.{words_text}
use Rattle.l4_text.proofs.output.Output.add_words.Given as goal

abbrev pub invariant-loop-word : goal.invariant-loop-word
invariant-loop-word l =
    (l.self ≡ (l.initial.self.0 ++ words_text (take l.word-index l.row), l.initial.self.1))
    × (length l.self.0 ≡ length l.initial.self.0 + 9 * l.word-index)
