use Rattle.std.proofs.Common.{ap, ◌∙◌}
use Rattle.l4_orders.specs.Reading.{first_number, lines_in}
use Rattle.l4_orders.proofs.Grouping.{known_next, unknown_at}
use Rattle.l4_orders.proofs.parts.check_known.Goals as goal

pub loop-block-preserved : goal.loop-block-preserved
loop-block-preserved c = known_next _ c.args.blocks.now c.loop-block.block-index c.block-item.result c.loop-block-test.true c.block-item.is c.loop-block.invariant c.if-not-is_known.ensures

pub returns-then-not-is_known : goal.returns-then-not-is_known
returns-then-not-is_known c =
    unknown_at _ c.args.blocks.now c.loop-block.block-index c.block-item.result c.first_number-number.result c.loop-block-test.true c.block-item.is c.loop-block.invariant c.if-not-is_known.ensures
    (c.first_number-number.ensures ∙ ap (λ l. first_number (lines_in l)) c.as_slice.ensures.value)
