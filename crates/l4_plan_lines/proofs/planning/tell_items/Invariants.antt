use Rattle.l4_text.specs.Streams.{Tells}
use Rattle.l4_plan_lines.specs.Plans.{parts_text}
use Rattle.l4_plan_lines.proofs.planning.tell_items.Given as goal

abbrev pub invariant-loop-number : goal.invariant-loop-number
invariant-loop-number g l = Tells (g.W.Write.contents l.fn.writer) (g.W.Write.contents l.writer) l.fn.out l.out (parts_text l.plan l.number)
