use Rattle.std.proofs.Common.{◌∙◌, refl}
use Rattle.l4_c_queries.proofs.Ended.{ended_first, ended_next, ended_all}
use Rattle.l4_c_queries.proofs.entries.write_ended.Goals as goal

pub loop-entry-init : goal.loop-entry-init
loop-entry-init c = ended_first _ _ _ (c.into_iter-entry-iterator.ensures.into_iter_gives ∙ c.entries_from-entry-items.ensures.entries)

pub loop-entry-preserved : goal.loop-entry-preserved
loop-entry-preserved c =
    ended_next _ _ _ c.in-Some.entry c.loop-entry.count _ c.as_slice-ended.result.now _ _ _ c.in-Some.ensures.steps c.loop-entry.invariant
    c.as_slice-ended.ensures.value c.as_slice-ended.ensures.fits refl c.write_numbers.ensures

pub returns : goal.returns
returns c = ended_all _ _ _ _ _ c.in-None.ensures.steps.0 c.loop-entry.invariant
