use Rattle.l4_threads.proofs.TransferLemmas.{AreTransfersOf}
use Rattle.l4_threads.proofs.table.Threads.transfers.Given as goal

abbrev pub invariant-loop-sender : goal.invariant-loop-sender
invariant-loop-sender l = AreTransfersOf l.self l.sender-items l.sender-index l.transfers.items
