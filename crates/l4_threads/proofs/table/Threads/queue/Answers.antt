use Rattle.std.proofs.Common.{List, ℕ, sym, ap, ◌∙◌}
use Rattle.l4_threads.specs.Queue.{is_in}
use Rattle.l4_threads.proofs.ViewLemmas.{sends_seen}
use Rattle.l4_threads.proofs.table.Threads.queue.Goals as goal

pub returns-clause-senders : goal.returns-clause-senders
returns-clause-senders c =
    λ n. ap (λ (queue : List ℕ). is_in queue n) c.as_slice.ensures.value ∙ c.self.invariant.table.queued n
    ∙ sym (sends_seen c.self.inside.threads c.self.inside.queue.items c.self.inside.next_space c.args.self.now c.self.view_is n)
