use Rattle.std.proofs.Common.{take}
use Rattle.l4_text.specs.Streams.{Tells}
use Rattle.l4_step_lines.specs.Answers.{ended_lines}
use Rattle.l4_step_lines.proofs.session.tell_ended.Given as goal

abbrev pub invariant-loop-number : goal.invariant-loop-number
invariant-loop-number g l =
    Tells (g.W.Write.contents l.initial.writer) (g.W.Write.contents l.writer) l.initial.out l.out (ended_lines l.mark (take l.number-index l.numbers) l.kernel)
