use Rattle.std.proofs.Common.{◌<◌, ap, arith, inl, inr}
use Rattle.l4_threads.specs.Activities.{sending_in}
use Rattle.l4_threads.proofs.TableLemmas.{same_or}
use Rattle.l4_threads.proofs.PassingLemmas.{handed_low, handed_high}
use Rattle.l4_threads.proofs.entries.hand_over.Goals as goal

pub returns-then-from-at : goal.returns-then-from-at
returns-then-from-at c = λ sender receiver sends takes sending from sent there.
    handed_high c.args.entries.now _ _ c.args.from c.args.at c.args.envelope _ _ _ c.split_at_mut-low.ensures.value c.split_at_mut-low.ensures.front_len c.if-from-at.true c.take.ensures
    sender receiver sends takes sending from (ap sending_in sent) there

pub returns-else-from-at : goal.returns-else-from-at
returns-else-from-at c = λ sender receiver sends takes sending from sent there.
    let lt : c.args.at < c.args.from = elim (same_or c.args.from c.args.at) [ inl is ↦ absurd (c.requires.other is) | inr ne ↦ omega arith ] in
    handed_low c.args.entries.now _ _ c.args.from c.args.at c.args.envelope _ _ _ c.split_at_mut-low-else-from-at.ensures.value c.split_at_mut-low-else-from-at.ensures.front_len lt c.take-else-from-at.ensures
    sender receiver sends takes sending from (ap sending_in sent) there
