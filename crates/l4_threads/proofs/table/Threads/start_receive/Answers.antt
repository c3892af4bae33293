use Rattle.std.proofs.Common.{not, refl}
use Rattle.l4_threads.specs.declared.State.TheVariants.{Receiving as Receives}
use Rattle.l4_threads.specs.Threads.{is_receiving}
use Rattle.l4_threads.proofs.ViewLemmas.{found_seen, found_not_none, left_table, seen_left}
use Rattle.l4_threads.proofs.FocusLemmas.{focused_waiting}
use Rattle.l4_threads.proofs.table.Threads.start_receive.Goals as goal

pub receive-sent-requires : goal.receive-sent-requires
receive-sent-requires c =
    let there = found_seen c.self.inside.threads c.self.inside.queue.items c.self.inside.next_space c.args.self.now c.self.view_is (λ state. not (is_receiving state)) c.args.number c.requires in
    found_not_none c.self.inside.threads c.args.number there.0 there.1

pub invariant_of-self : goal.invariant_of-self
invariant_of-self c =
    let there = found_seen c.self.inside.threads c.self.inside.queue.items c.self.inside.next_space c.args.self.now c.self.view_is (λ state. not (is_receiving state)) c.args.number c.requires in
    record {
      table = rw (c.receive-sent.ensures.value, c.leave_if.ensures)
          (left_table c.self.inside.threads c.self.inside.queue.items c.self.inside.next_space c.args.number there.0 (Receives c.args.receiving) c.self.invariant.table there.1 refl);
      focused = rw (c.receive-sent.ensures.value, c.with_waiting-self-inside.ensures) (focused_waiting c.self.inside.threads c.self.inside.focus c.args.number (Receives c.args.receiving) c.self.invariant.focused);
    }

pub returns : goal.returns
returns c =
    let there = found_seen c.self.inside.threads c.self.inside.queue.items c.self.inside.next_space c.args.self.now c.self.view_is (λ state. not (is_receiving state)) c.args.number c.requires in
    rw (← c.self.view_is, c.receive-sent.ensures.value, c.leave_if.ensures)
    (seen_left c.self.inside.threads c.self.inside.queue.items c.self.inside.next_space c.args.number there.0 (Receives c.args.receiving) c.self.invariant.table there.1)
