use Rattle.std.proofs.Common.{vec_capacity}
use Rattle.l4_threads.specs.Inside.Entries.{in_pager}
use Rattle.l4_threads.proofs.NumberLemmas.{written, written_numbers}
use Rattle.l4_threads.proofs.roster.Roster.set_pager.Goals as goal

pub invariant_of-self : goal.invariant_of-self
invariant_of-self c =
    written_numbers c.self.inside.entries.items c.args.self.now c.self.inside.numbers.items c.self.inside.hints (vec_capacity c.self.inside.entries) c.args.number c.in-Some.at (in_pager c.args.pager) c.index_mut.result.now c.self.invariant c.self.view_is c.index_mut.ensures.value c.in-Some.ensures

pub returns-in-Some : goal.returns-in-Some
returns-in-Some c =
    rw (← c.self.view_is) (written c.self.inside.entries.items c.args.self.now c.args.number c.in-Some.at (in_pager c.args.pager) c.index_mut.result.now c.self.view_is c.index_mut.ensures.value c.in-Some.ensures)

pub returns-in_default : goal.returns-in_default
returns-in_default c = absurd (c.requires c.in_default.ensures)
