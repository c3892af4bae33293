use Rattle.std.specs.List.{flat_map}
use Rattle.l4_plan_lines.specs.Lines.{ended, page_line}
use Rattle.l4_plan_lines.specs.Plans.{too_long_text}
use Rattle.l4_plan_lines.proofs.TextSteps.{ToldSoFar}
use Rattle.l4_plan_lines.proofs.planning.tell_pages.Given as goal

abbrev pub invariant-loop-page : goal.invariant-loop-page
invariant-loop-page g l =
    ToldSoFar (g.W.Write.contents l.fn.writer) (g.W.Write.contents l.writer) l.fn.out l.out (flat_map (λ page. ended (page_line page)) l.page-iterator) (too_long_text l.fn.pages)
