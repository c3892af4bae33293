use Rattle.std.proofs.Common.{take}
use Rattle.l4_text.specs.Streams.{Tells}
use Rattle.l4_step_lines.specs.Steps.{hex_texts}
use Rattle.l4_step_lines.proofs.asked.put_words.Given as goal

abbrev pub invariant-loop-word : goal.invariant-loop-word
invariant-loop-word g l =
    Tells (g.W.Write.contents l.initial.writer) (g.W.Write.contents l.writer) l.initial.out l.out (hex_texts (take l.word-index l.words))
