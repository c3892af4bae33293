use Rattle.l4_threads.proofs.EnabledLemmas.{found_test}
use Rattle.l4_threads.proofs.table.Threads.can_transfer.Goals as goal

pub returns : goal.returns
returns c = found_test c.args.self.now c.law_consistent.ensures c.args.receiver c.first_sender.result c.first_sender.ensures c.args.sender c.eq.result c.eq.ensures
