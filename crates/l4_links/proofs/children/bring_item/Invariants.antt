use Rattle.std.proofs.Common.{◌≤◌, ◌-◌}
use Rattle.l4_links.specs.Inside.Growing.{BringsPages}
use Rattle.l4_links.proofs.children.bring_item.Given as goal

-- the pages before this one have moved
abbrev pub invariant-loop-next : goal.invariant-loop-next
invariant-loop-next l = record {
  from : l.of.source.page ≤ l.page;
  before : l.page ≤ l.of.end;
  brings : BringsPages l.of l.of.source.page l.page l.fn.sources.items l.sources.items l.fn.targets.items l.targets.items l.fn.nodes l.nodes;
}

abbrev pub decreases-loop-next : goal.decreases-loop-next
decreases-loop-next l = l.of.end - l.page
