use Rattle.std.proofs.Common.{sym, ap, ◌∙◌, subst, is_some}
use Rattle.l4_threads.specs.Inside.Taker.{taker}
use Rattle.l4_threads.specs.Inside.Entries.{is_receiving, any_state}
use Rattle.l4_threads.proofs.EnabledLemmas.{IsQueueOf, queue_of, find_here, find_further, find_end, next_transfer_is, no_transfer, none_such, none_first}
use Rattle.l4_threads.proofs.table.Threads.first_transfer.Goals as goal

pub returns-then-not-any_receives : goal.returns-then-not-any_receives
returns-then-not-any_receives c =
    none_first c.args.self.now
    (none_such is_receiving c.self.inside.threads c.self.inside.queue.items c.self.inside.next_space c.args.self.now c.self.view_is
    (ap (any_state is_receiving) (sym c.as_slice.ensures.value) ∙ sym c.any_receives.ensures ∙ c.if-not-any_receives.true))

pub returns-in-Some : goal.returns-in-Some
returns-in-Some c =
    next_transfer_is c.args.self.now c.as_slice-sender-items.result.now
    (subst (IsQueueOf c.args.self.now) (sym c.as_slice-sender-items.ensures.value)
    (queue_of c.self.inside.threads c.self.inside.queue.items c.self.inside.next_space c.args.self.now c.self.invariant.table c.self.view_is))
    _ c.in-Some.receiver
    (find_here (λ n. is_some (taker c.args.self.now n)) _ _ c.loop-sender-test.true c.loop-sender.invariant (ap is_some (sym c.in-Some.ensures)))
    (sym c.in-Some.ensures)

pub loop-sender-preserved : goal.loop-sender-preserved
loop-sender-preserved c =
    find_further (λ n. is_some (taker c.args.self.now n)) _ _ c.loop-sender-test.true c.loop-sender.invariant (ap is_some (sym c.in_default.ensures))

pub returns : goal.returns
returns c =
    no_transfer c.args.self.now c.as_slice-sender-items.result.now
    (subst (IsQueueOf c.args.self.now) (sym c.as_slice-sender-items.ensures.value)
    (queue_of c.self.inside.threads c.self.inside.queue.items c.self.inside.next_space c.args.self.now c.self.invariant.table c.self.view_is))
    (find_end (λ n. is_some (taker c.args.self.now n)) _ _ c.loop-sender-test.false c.loop-sender.invariant)
