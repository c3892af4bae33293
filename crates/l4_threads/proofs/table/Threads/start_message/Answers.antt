use Rattle.std.proofs.Common.{lit<, refl}
use Rattle.l4_threads.specs.declared.State.TheVariants.{Sending as Sends}
use Rattle.l4_threads.specs.Threads.{is_running, sending_of}
use Rattle.l4_threads.proofs.ViewLemmas.{found_seen, found_not_none, out_of_line, room, joined_table, seen_joined}
use Rattle.l4_threads.proofs.FocusLemmas.{focused_waiting}
use Rattle.l4_threads.proofs.table.Threads.start_message.Goals as goal

pub send-requires-clause-there : goal.send-requires-clause-there
send-requires-clause-there c =
    let there = found_seen c.self.inside.threads c.self.inside.queue.items c.self.inside.next_space c.args.self.now c.self.view_is is_running c.args.number c.requires.running in
    found_not_none c.self.inside.threads c.args.number there.0 there.1

pub push-requires : goal.push-requires
push-requires c =
    let there = found_seen c.self.inside.threads c.self.inside.queue.items c.self.inside.next_space c.args.self.now c.self.view_is is_running c.args.number c.requires.running in
    let out = out_of_line c.self.inside.threads c.self.inside.queue.items c.self.inside.next_space c.args.number there.0 c.self.invariant.table there.1 there.2 in
    (lit< tt, room c.self.inside.threads c.self.inside.queue.items c.self.inside.next_space c.args.number there.0 c.self.invariant.table there.1 out)

pub invariant_of-self : goal.invariant_of-self
invariant_of-self c =
    let there = found_seen c.self.inside.threads c.self.inside.queue.items c.self.inside.next_space c.args.self.now c.self.view_is is_running c.args.number c.requires.running in
    let out = out_of_line c.self.inside.threads c.self.inside.queue.items c.self.inside.next_space c.args.number there.0 c.self.invariant.table there.1 there.2 in
    record {
      table = rw (c.send.ensures, c.push.ensures.items)
          (joined_table c.self.inside.threads c.self.inside.queue.items c.self.inside.next_space c.args.number there.0 (Sends (sending_of c.args.words.now c.args.items.now c.args.phase)) c.self.invariant.table there.1 out refl);
      focused = rw (c.send.ensures, c.with_waiting-self-inside.ensures) (focused_waiting c.self.inside.threads c.self.inside.focus c.args.number (Sends (sending_of c.args.words.now c.args.items.now c.args.phase)) c.self.invariant.focused);
    }

pub returns : goal.returns
returns c =
    let there = found_seen c.self.inside.threads c.self.inside.queue.items c.self.inside.next_space c.args.self.now c.self.view_is is_running c.args.number c.requires.running in
    rw (← c.self.view_is, c.send.ensures, c.push.ensures.items)
    (seen_joined c.self.inside.threads c.self.inside.queue.items c.self.inside.next_space c.args.number there.0 (sending_of c.args.words.now c.args.items.now c.args.phase) c.self.invariant.table there.1)
