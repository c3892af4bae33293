use Rattle.l4_threads.proofs.ActingLemmas.{focused_idle}
use Rattle.l4_threads.proofs.table.Threads.settle.Goals as goal

pub invariant_of-self : goal.invariant_of-self
invariant_of-self c = record {
  table = c.self.invariant.table;
  focused = focused_idle c.self.inside.threads c.self.inside.queue.items c.self.inside.next_space c.args.self.now c.self.invariant.table c.self.view_is c.requires.no_transfer c.requires.no_expiry;
}
