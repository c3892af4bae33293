use Rattle.std.proofs.Common.{◌≡◌, drop}
use Rattle.l4_orders.specs.Possible.{ask_all}
use Rattle.l4_orders.specs.Reading.{lines_in}
use Rattle.l4_orders.proofs.possible.ask_all.Given as goal

abbrev pub invariant-loop-thread : goal.invariant-loop-thread
invariant-loop-thread l =
    ask_all l.size l.names (lines_in l.initial.queries.items) l.threads ≡ ask_all l.size l.names (lines_in l.queries.items) (drop l.thread-index l.threads)
