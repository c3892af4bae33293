use Rattle.std.proofs.Common.{◌≤◌}
use Rattle.l4_links.specs.Inside.Growing.{WantsRow}
use Rattle.l4_links.proofs.wants.wants_run.Given as goal

-- what the entries before this one need
abbrev pub invariant-loop-step : goal.invariant-loop-step
invariant-loop-step l = record {
  row : WantsRow l.of l.from l.to l.step l.source l.target l.slots l.changes l.nodes.slots;
  few : l.slots ≤ l.step;
  within : l.step ≤ l.run.entries;
}
