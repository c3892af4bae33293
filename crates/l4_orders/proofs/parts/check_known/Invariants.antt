use Rattle.std.proofs.Common.{take}
use Rattle.l4_orders.specs.Reading.{AreKnown, groups_in}
use Rattle.l4_orders.proofs.parts.check_known.Given as goal

abbrev pub invariant-loop-block : goal.invariant-loop-block
invariant-loop-block l = AreKnown l.created (groups_in (take l.block-index l.blocks))
