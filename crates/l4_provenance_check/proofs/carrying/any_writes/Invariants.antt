use Rattle.std.specs.List.{AllWithin}
use Rattle.l4_record.specs.Inside.Carrying.{IsWrittenBy}
use Rattle.l4_provenance_check.proofs.carrying.any_writes.Given as goal

abbrev pub invariant-loop-item : goal.invariant-loop-item
invariant-loop-item l =
    AllWithin (λ item. ¬ (IsWrittenBy l.kernel.size l.kernel.mappings l.sides.«from» l.sides.to l.sides.window item l.place)) l.sides.items.now 0 l.item-index
