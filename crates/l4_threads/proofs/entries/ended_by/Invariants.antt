use Rattle.std.proofs.Common.{◌≡◌, ◌≤◌, drop, [], length}
use Rattle.l4_threads.specs.Inside.Entries.{ended_in}
use Rattle.l4_threads.proofs.entries.ended_by.Given as goal

abbrev pub invariant-loop-entry : goal.invariant-loop-entry
invariant-loop-entry l = record {
  so_far : ended_in l.entries l.victim [] ≡ ended_in (drop l.entry-index l.entries) l.victim l.ended.items;
  few : length l.ended.items ≤ l.entry-index;
}
