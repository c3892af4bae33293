use Rattle.l4_threads.proofs.ActingLemmas.{nobody_transfers, one_takes_part}
use Rattle.l4_threads.proofs.table.Threads.next_transfer.Goals as goal

pub returns-in-Nobody : goal.returns-in-Nobody
returns-in-Nobody c = nobody_transfers c.self.inside.threads c.self.inside.queue.items c.self.inside.next_space c.args.self.now c.self.view_is c.self.inside.focus c.self.invariant.focused c.in-Nobody.is

pub transfer_of-requires : goal.transfer_of-requires
transfer_of-requires c =
    one_takes_part c.self.inside.threads c.self.inside.queue.items c.self.inside.next_space c.args.self.now c.self.view_is c.self.inside.focus c.self.invariant.focused c.in-One.number c.in-One.is
