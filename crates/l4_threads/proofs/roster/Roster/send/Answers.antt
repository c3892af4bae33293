use Rattle.std.proofs.Common.{vec_capacity}
use Rattle.l4_threads.specs.declared.State.TheVariants.{Sending as Sends}
use Rattle.l4_threads.specs.Threads.{sending_of}
use Rattle.l4_threads.specs.Inside.Entries.{in_state}
use Rattle.l4_threads.proofs.NumberLemmas.{written, written_numbers}
use Rattle.l4_threads.proofs.roster.Roster.send.Goals as goal

pub invariant_of-self : goal.invariant_of-self
invariant_of-self c =
    rw c.send.ensures (written_numbers c.self.inside.entries.items c.args.self.now c.self.inside.numbers.items c.self.inside.hints (vec_capacity c.self.inside.entries) c.args.number c.in-Some.at (in_state (Sends (sending_of c.args.words.now c.args.items.now c.args.phase))) c.index_mut.result.now c.self.invariant c.self.view_is c.index_mut.ensures.value c.in-Some.ensures)

pub returns-in-Some : goal.returns-in-Some
returns-in-Some c =
    rw (c.send.ensures, ← c.self.view_is) (written c.self.inside.entries.items c.args.self.now c.args.number c.in-Some.at (in_state (Sends (sending_of c.args.words.now c.args.items.now c.args.phase))) c.index_mut.result.now c.self.view_is c.index_mut.ensures.value c.in-Some.ensures)

pub returns-in_default : goal.returns-in_default
returns-in_default c = absurd (c.requires.there c.in_default.ensures)
