use Rattle.std.proofs.Common.{arith, vec_len, ◌∙◌}
use Rattle.l4_merges.proofs.Drawing.{when_not}
use Rattle.l4_merges.proofs.Linking.{can_add}
use Rattle.l4_merges.proofs.table.Table.add.Goals as goal

pub link-requires : goal.link-requires
link-requires c =
    can_add c.grow.new.self c.as_mut_slice.result.now c.reserve.new.self.items c.reserve-else-is_err.new.self.items c.as_slice.result.now c.as_mut_slice-2.result.now c.args.digest c.len-place.result c.grow.ensures.table c.as_mut_slice.ensures.value
    c.reserve.ensures.items c.reserve-else-is_err.ensures.items (omega (arith, c.len-place.ensures, c.reserve.new.self.ok.0)) (c.as_slice.ensures.value ∙ c.push_reserved.ensures.items)
    (c.as_mut_slice-2.ensures.value ∙ c.push_reserved-2.ensures.items)
    (when_not c.is_empty.result (vec_len c.grow.new.self.slots) _ c.is_empty.ensures (omega (arith, c.grow.new.self.slots.ok.0)) c.if-is_empty.false)
