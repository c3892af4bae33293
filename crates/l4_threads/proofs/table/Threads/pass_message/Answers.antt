use Rattle.std.proofs.Common.{refl}
use Rattle.l4_threads.specs.Inside.Passing.{taken}
use Rattle.l4_threads.proofs.ViewLemmas.{found_not_none}
use Rattle.l4_threads.proofs.FocusLemmas.{focused_running}
use Rattle.l4_threads.proofs.PassingLemmas.{giver, giver_sends, gives, gives_this, taker_found, passed_table, passed_seen}
use Rattle.l4_threads.proofs.table.Threads.pass_message.Goals as goal

pub pass-requires-clause-there : goal.pass-requires-clause-there
pass-requires-clause-there c =
    let to = taker_found c.self.inside.threads c.self.inside.queue.items c.self.inside.next_space c.args.self.now c.self.invariant.table c.self.view_is c.args.sender c.args.receiver c.requires in
    found_not_none c.self.inside.threads c.args.receiver to.0 to.1

pub pass-requires-clause-sends : goal.pass-requires-clause-sends
pass-requires-clause-sends c =
    giver_sends c.self.inside.threads c.self.inside.queue.items c.self.inside.next_space c.args.self.now c.self.invariant.table c.self.view_is c.args.sender c.args.receiver c.requires

pub invariant_of-self : goal.invariant_of-self
invariant_of-self c =
    let from = giver c.self.inside.threads c.self.inside.queue.items c.self.inside.next_space c.args.self.now c.self.invariant.table c.self.view_is c.args.sender c.args.receiver c.requires in
    let sends = gives c.self.inside.threads c.self.inside.queue.items c.self.inside.next_space c.args.self.now c.self.invariant.table c.self.view_is c.args.sender c.args.receiver c.requires in
    let to = taker_found c.self.inside.threads c.self.inside.queue.items c.self.inside.next_space c.args.self.now c.self.invariant.table c.self.view_is c.args.sender c.args.receiver c.requires in
    let passed = c.pass.ensures from.0 sends.0 from.1 sends.1 in
    record {
      table = rw passed (passed_table c.self.inside.threads c.self.inside.queue.items c.self.inside.next_space c.args.self.now c.self.invariant.table c.self.view_is c.args.sender c.args.receiver c.requires c.args.envelope sends.0);
      focused = rw (passed, c.with_running-self-inside.ensures) (focused_running c.self.inside.threads c.self.inside.focus c.args.receiver to.0 (taken c.args.envelope sends.0) to.1 refl c.self.invariant.focused);
    }

pub returns : goal.returns
returns c = λ sending sent.
    let from = giver c.self.inside.threads c.self.inside.queue.items c.self.inside.next_space c.args.self.now c.self.invariant.table c.self.view_is c.args.sender c.args.receiver c.requires in
    let sends = gives_this c.self.inside.threads c.self.inside.queue.items c.self.inside.next_space c.args.self.now c.self.invariant.table c.self.view_is c.args.sender c.args.receiver c.requires sending sent in
    let passed = c.pass.ensures from.0 sending from.1 sends in
    let seen = passed_seen c.self.inside.threads c.self.inside.queue.items c.self.inside.next_space c.args.self.now c.self.invariant.table c.self.view_is c.args.sender c.args.receiver c.requires c.args.envelope sending in
    rw (← c.self.view_is, passed) seen
