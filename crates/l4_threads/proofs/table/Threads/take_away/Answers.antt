use Rattle.std.proofs.Common.{◌≡◌, filter, ap, ◌∙◌}
use Rattle.l4_threads.specs.Inside.Entries.{Entries, sends_in, without_in}
use Rattle.l4_threads.proofs.DeleteLemmas.{gone_in, gone_table, deletes}
use Rattle.l4_threads.proofs.FocusLemmas.{focused_gone}
use Rattle.l4_threads.proofs.table.Threads.take_away.Goals as goal

pub invariant_of-self : goal.invariant_of-self
invariant_of-self c =
    let threads : c.remove.new.self ≡ gone_in c.self.inside.threads c.args.number =
    c.remove.ensures ∙ ap (λ (es : Entries). without_in es c.args.number) c.free.ensures in
    let queue : c.keep_senders.new.queue.items ≡ filter (sends_in (gone_in c.self.inside.threads c.args.number)) c.self.inside.queue.items =
    c.keep_senders.ensures ∙ ap (λ (es : Entries). filter (sends_in es) c.self.inside.queue.items) threads in
    rw (threads, queue) (record {
      table = gone_table c.self.inside.threads c.self.inside.queue.items c.self.inside.next_space c.args.number c.self.invariant.table;
      focused = focused_gone c.self.inside.threads c.self.inside.focus c.args.number c.self.invariant.focused;
    })

pub returns : goal.returns
returns c =
    let threads : c.remove.new.self ≡ gone_in c.self.inside.threads c.args.number =
    c.remove.ensures ∙ ap (λ (es : Entries). without_in es c.args.number) c.free.ensures in
    let queue : c.keep_senders.new.queue.items ≡ filter (sends_in (gone_in c.self.inside.threads c.args.number)) c.self.inside.queue.items =
    c.keep_senders.ensures ∙ ap (λ (es : Entries). filter (sends_in es) c.self.inside.queue.items) threads in
    rw (threads, queue) (deletes c.self.inside.threads c.self.inside.queue.items c.self.inside.next_space c.args.number c.args.self.now c.self.view_is)
