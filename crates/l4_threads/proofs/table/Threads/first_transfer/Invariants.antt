use Rattle.std.proofs.Common.{◌≡◌, drop, is_some}
use Rattle.std.specs.List.{find}
use Rattle.l4_threads.specs.Inside.Taker.{taker}
use Rattle.l4_threads.proofs.table.Threads.first_transfer.Given as goal

-- the first in the queue whose message is taken is the first in what is left of it
abbrev pub invariant-loop-sender : goal.invariant-loop-sender
invariant-loop-sender l =
    find (λ n. is_some (taker l.self n)) l.sender-items ≡ find (λ n. is_some (taker l.self n)) (drop l.sender-index l.sender-items)
