use Rattle.std.proofs.Common.{◌≡◌, ◌≤◌, ◌-◌}
use Rattle.l4_mapdb.specs.Inside.Cutting.{Tidies}
use Rattle.l4_mapdb.specs.Inside.Messages.{InPages}
use Rattle.l4_mapdb.proofs.unmarking.tidy_block.Given as goal

-- the pages before this one are cut and have lost their marks
abbrev pub invariant-loop-page : goal.invariant-loop-page
invariant-loop-page l = record {
  tidies : Tidies (InPages l.space l.fn.block.first l.start) l.fn.links.entries l.links.entries;
  begun : l.fn.block.first ≤ l.start;
  within : l.start ≤ l.end;
  spaces : l.links.spaces ≡ l.fn.links.spaces;
}

abbrev pub decreases-loop-page : goal.decreases-loop-page
decreases-loop-page l = l.end - l.start
