use Rattle.std.proofs.Common.{ap, List, ℕ, ◌++◌}
use Rattle.std.specs.List.{flat_map}
use Rattle.l4_plan_lines.specs.Lines.{ended, page_line, long_line}
use Rattle.l4_plan_lines.proofs.TextSteps.{told_next, told_all}
use Rattle.l4_plan_lines.proofs.planning.tell_pages.Goals as goal

pub loop-page-init : goal.loop-page-init
loop-page-init g c = (
  ended long_line,
  c.tell.ensures,
  ap (λ (ps : List ℕ). ended long_line ++ flat_map (λ page. ended (page_line page)) ps) c.into_iter-page-iterator.ensures.into_iter_gives,
)

pub loop-page-preserved : goal.loop-page-preserved
loop-page-preserved g c = told_next _ _ _ _ _ _ _ _ _ c.in-Some.page _ c.in-Some.ensures.steps c.loop-page.invariant c.page_text.ensures.value c.tell_line.ensures

pub returns : goal.returns
returns g c = told_all _ _ _ _ _ _ c.loop-page.invariant (ap (flat_map (λ page. ended (page_line page))) c.in-None.ensures.steps.0)
