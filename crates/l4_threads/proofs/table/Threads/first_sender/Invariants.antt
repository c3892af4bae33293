use Rattle.std.proofs.Common.{◌≡◌, drop}
use Rattle.std.specs.List.{find}
use Rattle.l4_threads.specs.Threads.{state_of}
use Rattle.l4_threads.specs.Enabled.{offers_to}
use Rattle.l4_threads.proofs.table.Threads.first_sender.Given as goal

-- the first in the queue that offers is the first in what is left of it
abbrev pub invariant-loop-sender : goal.invariant-loop-sender
invariant-loop-sender l =
    find (λ n. offers_to (state_of l.self n) (state_of l.self l.receiver) n l.receiver) l.sender-items
    ≡ find (λ n. offers_to (state_of l.self n) (state_of l.self l.receiver) n l.receiver) (drop l.sender-index l.sender-items)
