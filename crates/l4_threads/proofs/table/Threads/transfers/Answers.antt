use Rattle.std.proofs.Common.{◌+◌, refl, sym, ◌∙◌, subst}
use Rattle.l4_threads.proofs.EnabledLemmas.{IsQueueOf, queue_of}
use Rattle.l4_threads.proofs.TransferLemmas.{AreTransfersOf, offers_none, offers_one, are_transfers}
use Rattle.l4_threads.proofs.table.Threads.transfers.Goals as goal
use Rattle.l4_threads.proofs.table.Threads.transfers.Goals.{in-Some, in_default}

pub loop-sender-preserved : goal.loop-sender-preserved
loop-sender-preserved c =
    elim c.match-taker.branch [
      | in-Some w ↦
          subst (λ l. AreTransfersOf c.args.self.now c.as_slice-sender-items.result.now (c.loop-sender.sender-index + 1) l.items) (sym w.transfers-is)
          (offers_one c.args.self.now c.as_slice-sender-items.result.now c.loop-sender.sender-index _ c.loop-sender-test.true refl
          c.loop-sender.transfers.items w.add_transfer.new.transfers.items w.in-Some.receiver c.loop-sender.invariant (sym c.taker.ensures ∙ w.in-Some.is) w.add_transfer.ensures.items w.add_transfer.ensures.len)
      | in_default w ↦
          subst (λ l. AreTransfersOf c.args.self.now c.as_slice-sender-items.result.now (c.loop-sender.sender-index + 1) l.items) (sym w.transfers-is)
          (offers_none c.args.self.now c.as_slice-sender-items.result.now c.loop-sender.sender-index _ c.loop-sender-test.true refl
          c.loop-sender.transfers.items c.loop-sender.invariant (sym c.taker.ensures ∙ w.in_default.is))
    ]

pub returns : goal.returns
returns c =
    are_transfers c.args.self.now c.as_slice-sender-items.result.now
    (subst (IsQueueOf c.args.self.now) (sym c.as_slice-sender-items.ensures.value)
    (queue_of c.self.inside.threads c.self.inside.queue.items c.self.inside.next_space c.args.self.now c.self.invariant.table c.self.view_is))
    c.loop-sender.sender-index c.loop-sender-test.false c.loop-sender.transfers.items c.loop-sender.invariant
