use Rattle.std.proofs.Common.{refl}
use Rattle.std.proofs.lemmas.Bool.{false≢true}
use Rattle.l4_threads.proofs.ActingLemmas.{nobody_expires, one_expires, only_expiry, no_expiry}
use Rattle.l4_threads.proofs.table.Threads.next_expiry.Goals as goal

pub returns-in-Nobody : goal.returns-in-Nobody
returns-in-Nobody c = nobody_expires c.self.inside.threads c.self.inside.queue.items c.self.inside.next_space c.args.self.now c.self.view_is c.self.inside.focus c.self.invariant.focused c.in-Nobody.is

pub returns-then-can_expire : goal.returns-then-can_expire
returns-then-can_expire c =
    only_expiry c.args.self.now c.in-One.number (one_expires c.self.inside.threads c.self.inside.queue.items c.self.inside.next_space c.args.self.now c.self.view_is c.self.inside.focus c.self.invariant.focused c.in-One.number c.in-One.is)
    (c.if-can_expire.ensures.0 refl)

pub returns-else-can_expire : goal.returns-else-can_expire
returns-else-can_expire c =
    no_expiry c.args.self.now c.in-One.number (one_expires c.self.inside.threads c.self.inside.queue.items c.self.inside.next_space c.args.self.now c.self.view_is c.self.inside.focus c.self.invariant.focused c.in-One.number c.in-One.is)
    (λ can. false≢true (c.if-can_expire.ensures.1 can))
