use Rattle.std.proofs.Common.{◌-◌, ◌≡◌, ◌+◌, ◌≤◌}
use Rattle.l4_plan.proofs.Runs.{Passes}
use Rattle.l4_plan.proofs.splitting.pass.Given as goal

abbrev pub invariant-loop-page : goal.invariant-loop-page
invariant-loop-page l = record {
  end : l.end ≡ l.region.source + l.region.count;
  few : l.blocks ≤ l.most;
  passes : Passes l.region l.page l.blocks;
}

abbrev pub decreases-loop-page : goal.decreases-loop-page
decreases-loop-page l = l.most - l.blocks
