use Rattle.std.proofs.Common.{length, ◌≤◌, sym, subst, vec_capacity}
use Rattle.l4_threads.specs.Inside.Entries.{Entries}
use Rattle.l4_threads.specs.Sizes.{max_threads}
use Rattle.l4_threads.proofs.NumberLemmas.{few_entries}
use Rattle.l4_threads.proofs.roster.Roster.as_slice.Goals as goal

pub returns-clause-fits : goal.returns-clause-fits
returns-clause-fits c =
    subst (λ (es : Entries). length es ≤ max_threads) (sym c.as_slice.ensures.value)
    (few_entries c.self.inside.entries.items c.self.inside.numbers.items c.self.inside.hints (vec_capacity c.self.inside.entries) c.self.invariant)
