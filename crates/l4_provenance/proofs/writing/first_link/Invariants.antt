use Rattle.std.specs.List.{AllWithin}
use Rattle.l4_record.specs.Inside.Carrying.{IsWrittenBy}
use Rattle.l4_provenance.proofs.writing.first_link.Given as goal

abbrev pub invariant-loop-item : goal.invariant-loop-item
invariant-loop-item l =
    AllWithin (λ item. ¬ (IsWrittenBy l.kernel.size l.kernel.mappings l.letter.«from» l.letter.to l.letter.window item l.place)) l.letter.items.now 0 l.item-index
