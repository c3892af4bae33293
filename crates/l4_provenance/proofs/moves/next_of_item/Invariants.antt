use Rattle.std.proofs.Common.{◌+◌, ◌-◌, ◌^◌, ◌≤◌}
use Rattle.l4_provenance.proofs.Moving.{Looked}
use Rattle.l4_provenance.proofs.moves.next_of_item.Given as goal

abbrev pub invariant-loop-present : goal.invariant-loop-present
invariant-loop-present l =
    Looked l.kernel.size l.kernel.mappings l.letter.«from» l.letter.to l.letter.items.now l.letter.window l.item l.initial.from l.page × (l.pages.source.first ≤ l.page)

abbrev pub decreases-loop-present : goal.decreases-loop-present
decreases-loop-present l = l.pages.source.first + 2 ^ l.pages.source.log - l.page
