use Rattle.std.proofs.Common.{vec_capacity}
use Rattle.l4_threads.specs.declared.State.TheVariants.{Receiving as Receives}
use Rattle.l4_threads.specs.Inside.Entries.{in_state}
use Rattle.l4_threads.proofs.NumberLemmas.{written, written_numbers, sent_at}
use Rattle.l4_threads.proofs.roster.Roster.receive.Goals as goal

pub invariant_of-self : goal.invariant_of-self
invariant_of-self c =
    rw c.receive.ensures (written_numbers c.self.inside.entries.items c.args.self.now c.self.inside.numbers.items c.self.inside.hints (vec_capacity c.self.inside.entries) c.args.number c.in-Some.at (in_state (Receives c.args.receiving)) c.index_mut.result.now c.self.invariant c.self.view_is c.index_mut.ensures.value c.in-Some.ensures)

pub returns-clause-value : goal.returns-clause-value
returns-clause-value c =
    rw (c.receive.ensures, ← c.self.view_is) (written c.self.inside.entries.items c.args.self.now c.args.number c.in-Some.at (in_state (Receives c.args.receiving)) c.index_mut.result.now c.self.view_is c.index_mut.ensures.value c.in-Some.ensures)

pub returns-clause-sent : goal.returns-clause-sent
returns-clause-sent c =
    sent_at c.self.inside.entries.items c.args.self.now c.args.number c.in-Some.at c.index.result.now c.is_sending-sent.result c.is_sending-sent.ensures c.index.ensures c.self.view_is c.in-Some.ensures
