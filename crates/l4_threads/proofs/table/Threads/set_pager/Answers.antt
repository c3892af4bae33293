use Rattle.std.proofs.Common.{sym, ◌∙◌}
use Rattle.l4_threads.proofs.ViewLemmas.{thread_at_seen, found_not_none, named_there, pager_table, seen_pager}
use Rattle.l4_threads.proofs.FocusLemmas.{focused_pager}
use Rattle.l4_threads.proofs.table.Threads.set_pager.Goals as goal

pub set_pager-requires : goal.set_pager-requires
set_pager-requires c =
    let there = named_there c.args.self.now c.args.id c.in-Some.number (sym c.in-Some.ensures) in
    found_not_none c.self.inside.threads c.in-Some.number there.0
    (sym (thread_at_seen c.self.inside.threads c.self.inside.queue.items c.self.inside.next_space c.args.self.now c.self.view_is c.in-Some.number) ∙ there.1)

pub invariant_of-self : goal.invariant_of-self
invariant_of-self c = rw c.set_pager.ensures (record {
  table = pager_table c.self.inside.threads c.self.inside.queue.items c.self.inside.next_space c.in-Some.number c.args.pager c.self.invariant.table;
  focused = focused_pager c.self.inside.threads c.self.inside.focus c.in-Some.number c.args.pager c.self.invariant.focused;
})

pub returns-clause-ok : goal.returns-clause-ok
returns-clause-ok c =
    let there = named_there c.args.self.now c.args.id c.in-Some.number (sym c.in-Some.ensures) in
    rw (← c.self.view_is, c.set_pager.ensures)
    (seen_pager c.self.inside.threads c.self.inside.queue.items c.self.inside.next_space c.in-Some.number there.0 c.args.pager
    (sym (thread_at_seen c.self.inside.threads c.self.inside.queue.items c.self.inside.next_space c.args.self.now c.self.view_is c.in-Some.number) ∙ there.1))
