use Rattle.std.proofs.Common.{◌≡◌}
use Rattle.l4_lock_tests.proofs.waiting.shows.Given as goal

abbrev pub invariant-loop : goal.invariant-loop
invariant-loop g l = l.watch.board ≡ l.board
