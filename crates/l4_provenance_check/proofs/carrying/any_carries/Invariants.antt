use Rattle.std.specs.List.{AllWithin}
use Rattle.l4_record.specs.Inside.Carrying.{IsCarriedBy}
use Rattle.l4_provenance_check.proofs.carrying.any_carries.Given as goal

abbrev pub invariant-loop-item : goal.invariant-loop-item
invariant-loop-item l =
    AllWithin (λ item. ¬ (IsCarriedBy l.kernel.size l.kernel.mappings l.sides.«from» l.sides.to l.sides.window item l.link)) l.sides.items.now 0 l.item-index
