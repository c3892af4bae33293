use Rattle.std.proofs.Common.{ℕ, length, slice_get, Some, sym, ap, subst, ◌<◌, ◌∙◌, arith, vec_capacity}
use Rattle.std.proofs.lemmas.Option.{get_or_from_slice_get}
use Rattle.l4_threads.specs.declared.Thread.{Thread}
use Rattle.l4_threads.specs.Inside.Entries.{Entries}
use Rattle.l4_threads.proofs.TableLemmas.{found_first}
use Rattle.l4_threads.proofs.NumberLemmas.{at_within, few_entries}
use Rattle.l4_threads.proofs.roster.Roster.thread.Goals as goal

pub returns-in_err-at : goal.returns-in_err-at
returns-in_err-at c = rw c.from_residual.ensures (sym c.in_err-at.ensures)

pub bounds-entries-at : goal.bounds-entries-at
bounds-entries-at c =
    subst (λ (es : Entries). c.in_ok-at.at < length es) (sym (c.as_slice-entries.ensures.value ∙ c.self.view_is)) (at_within c.args.self.now c.args.number c.in_ok-at.at c.in_ok-at.ensures)

pub offset_bounds-entries-at : goal.offset_bounds-entries-at
offset_bounds-entries-at c =
    let below = bounds-entries-at c in
    let all = ap (λ (es : Entries). length es) c.as_slice-entries.ensures.value in
    let few = few_entries c.self.inside.entries.items c.self.inside.numbers.items c.self.inside.hints (vec_capacity c.self.inside.entries) c.self.invariant in
    omega (arith, below, all, few)

pub returns : goal.returns
returns c =
    let first = c.in_ok-at.ensures in
    let there = ap (λ (es : Entries). slice_get es c.in_ok-at.at) (c.as_slice-entries.ensures.value ∙ c.self.view_is) ∙ first.there in
    ap (λ (e : ℕ × Thread). Some e.1) (get_or_from_slice_get c.as_slice-entries.result.now c.in_ok-at.at (c.args.number, first.thread) c.index-entries-at.result there)
    ∙ sym (found_first c.args.self.now c.args.number c.in_ok-at.at first.thread first.there first.first)
