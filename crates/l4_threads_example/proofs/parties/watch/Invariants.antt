use Rattle.std.proofs.Common.{◌≡◌}
use Rattle.l4_threads_example.proofs.parties.watch.Given as goal

abbrev pub invariant-loop : goal.invariant-loop
invariant-loop g l = l.watch.board ≡ l.lock
