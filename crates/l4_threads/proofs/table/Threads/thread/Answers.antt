use Rattle.std.proofs.Common.{sym, ◌∙◌}
use Rattle.l4_threads.proofs.ViewLemmas.{thread_at_seen}
use Rattle.l4_threads.proofs.table.Threads.thread.Goals as goal

pub returns : goal.returns
returns c =
    c.thread.ensures
    ∙ sym (thread_at_seen c.self.inside.threads c.self.inside.queue.items c.self.inside.next_space c.args.self.now c.self.view_is c.args.number)
