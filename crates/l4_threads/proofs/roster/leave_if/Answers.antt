use Rattle.std.proofs.Common.{sym, ◌∙◌}
use Rattle.l4_threads.proofs.QueueLemmas.{left_by_none}
use Rattle.l4_threads.proofs.roster.leave_if.Goals as goal

pub returns-else-sent : goal.returns-else-sent
returns-else-sent c = sym (left_by_none c.args.number c.args.queue.now.items (c.requires.senders ∙ c.if-sent.false))
