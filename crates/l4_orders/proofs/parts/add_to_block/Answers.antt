use Rattle.std.proofs.Common.{ap, refl, ◌∙◌}
use Rattle.std.specs.List.{position}
use Rattle.l4_orders.specs.Inside.Parts.{is_of}
use Rattle.l4_orders.proofs.Adding.{on_ok}
use Rattle.l4_orders.proofs.Grouping.{added_at_end, grown_in}
use Rattle.l4_orders.proofs.parts.add_to_block.Goals as goal

pub returns-in_default-clause-ok : goal.returns-in_default-clause-ok
returns-in_default-clause-ok c =
    on_ok c.add_block.result (λ e. e ∙ added_at_end c.args.blocks.now.items c.args.thread c.args.cancels _ (c.in_default.ensures ∙ ap (λ l. position (is_of c.args.thread c.args.cancels) l) c.as_slice.ensures.value)) c.add_block.ensures.ok

pub returns-clause-ok : goal.returns-clause-ok
returns-clause-ok c =
    on_ok c.add.result
    (λ e. grown_in c.args.blocks.now.items c.as_mut_slice.result.now c.args.thread c.args.cancels c.in-Some.place c.args.blocks.now.len c.index-as_mut_slice-place.result _ _ c.as_mut_slice.ensures.value c.as_mut_slice.ensures.len
    (c.in-Some.ensures ∙ ap (λ l. position (is_of c.args.thread c.args.cancels) l) c.as_slice.ensures.value) refl refl e) c.add.ensures.ok
