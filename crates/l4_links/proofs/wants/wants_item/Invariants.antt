use Rattle.std.proofs.Common.{◌≤◌, ◌+◌, ◌-◌}
use Rattle.l4_links.specs.Inside.Bringing.{MakesTables}
use Rattle.l4_links.specs.Inside.Growing.{WantsPages}
use Rattle.l4_links.proofs.wants.wants_item.Given as goal

-- what the pages before this one need
abbrev pub invariant-loop-next : goal.invariant-loop-next
invariant-loop-next l = record {
  pages : WantsPages l.of l.of.source.page l.page l.sources.items l.targets.items l.slots l.changes l.nodes.slots;
  few : l.of.source.page + l.slots ≤ l.page;
  before : l.page ≤ l.of.end;
  makes : MakesTables l.fn.targets.items l.targets.items;
}

abbrev pub decreases-loop-next : goal.decreases-loop-next
decreases-loop-next l = l.of.end - l.page
