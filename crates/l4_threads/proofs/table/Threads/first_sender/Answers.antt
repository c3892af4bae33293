use Rattle.std.proofs.Common.{get_or, sym, ◌∙◌, subst}
use Rattle.l4_threads.specs.Threads.{state_of}
use Rattle.l4_threads.specs.Enabled.{offers_to}
use Rattle.l4_threads.proofs.EnabledLemmas.{IsQueueOf, queue_of, find_here, find_further, find_end, first_sender_is, no_sender}
use Rattle.l4_threads.proofs.table.Threads.first_sender.Goals as goal

pub returns-then-offers : goal.returns-then-offers
returns-then-offers c =
    first_sender_is c.args.self.now c.as_slice-sender-items.result.now
    (subst (IsQueueOf c.args.self.now) (sym c.as_slice-sender-items.ensures.value)
    (queue_of c.self.inside.threads c.self.inside.queue.items c.self.inside.next_space c.args.self.now c.self.invariant.table c.self.view_is))
    c.args.receiver _
    (find_here (λ n. offers_to (state_of c.args.self.now n) (state_of c.args.self.now c.args.receiver) n c.args.receiver) _ _ c.loop-sender-test.true c.loop-sender.invariant (sym (λ i. offers_to (c.state.ensures i) (c.state-takes.ensures i) (get_or c.as_slice-sender-items.result.now c.loop-sender.sender-index 0) c.args.receiver) ∙ sym c.if-offers.ensures))

pub loop-sender-preserved : goal.loop-sender-preserved
loop-sender-preserved c =
    find_further (λ n. offers_to (state_of c.args.self.now n) (state_of c.args.self.now c.args.receiver) n c.args.receiver) _ _ c.loop-sender-test.true c.loop-sender.invariant (sym (λ i. offers_to (c.state.ensures i) (c.state-takes.ensures i) (get_or c.as_slice-sender-items.result.now c.loop-sender.sender-index 0) c.args.receiver) ∙ sym c.if-offers.ensures)

pub returns : goal.returns
returns c =
    no_sender c.args.self.now c.as_slice-sender-items.result.now
    (subst (IsQueueOf c.args.self.now) (sym c.as_slice-sender-items.ensures.value)
    (queue_of c.self.inside.threads c.self.inside.queue.items c.self.inside.next_space c.args.self.now c.self.invariant.table c.self.view_is))
    c.args.receiver
    (find_end (λ n. offers_to (state_of c.args.self.now n) (state_of c.args.self.now c.args.receiver) n c.args.receiver) _ _ c.loop-sender-test.false c.loop-sender.invariant)
