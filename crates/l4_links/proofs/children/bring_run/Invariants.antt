use Rattle.std.proofs.Common.{◌≤◌}
use Rattle.l4_links.specs.Inside.Growing.{BringsRow}
use Rattle.l4_links.proofs.children.bring_run.Given as goal

-- the pages of the entries before this one have moved
abbrev pub invariant-loop-step : goal.invariant-loop-step
invariant-loop-step l = record {
  brings : BringsRow l.fn.of l.fn.page l.run.from l.run.to l.run.entries l.step l.fn.source l.source l.fn.target l.target l.fn.nodes l.nodes;
  within : l.step ≤ l.run.entries;
}
