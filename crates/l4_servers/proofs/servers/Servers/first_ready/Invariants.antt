use Rattle.std.proofs.Common.{drop}
use Rattle.l4_servers.proofs.Finding.{Looking}
use Rattle.l4_servers.proofs.servers.Servers.first_ready.Given as goal

abbrev pub invariant-loop-thread : goal.invariant-loop-thread
invariant-loop-thread l = Looking l.kernel.threads l.self (drop l.thread-index l.thread-items)
