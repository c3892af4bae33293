use Rattle.std.proofs.Common.{◌≡◌, ◌+◌, ◌*◌, length, drop}
use Rattle.l4_plan_lines.specs.Plans.{item_texts, message_text}
use Rattle.l4_plan_lines.proofs.TextSteps.{ToldSoFar}
use Rattle.l4_plan_lines.proofs.planning.tell_message.Given as goal

abbrev pub invariant-loop-page : goal.invariant-loop-page
invariant-loop-page g l = record {
  told : ToldSoFar (g.W.Write.contents l.fn.writer) (g.W.Write.contents l.writer) l.fn.out l.out (item_texts l.rest (drop l.page-index l.pages)) (message_text l.words l.pages);
  left : length l.rest + 2 * l.page-index ≡ 2 * length l.pages;
}
