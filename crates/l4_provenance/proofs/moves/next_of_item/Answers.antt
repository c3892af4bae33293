use Rattle.std.proofs.Common.{arith}
use Rattle.l4_provenance.proofs.Moving.{next_moves, looked_on}
use Rattle.l4_provenance.proofs.moves.next_of_item.Goals as goal

pub returns-in-Some-moved_page : goal.returns-in-Some-moved_page
returns-in-Some-moved_page c =
    next_moves _ _ _ _ _ _ _ _ _ _ c.in-Some.pages _ c.loop-present.invariant.0 c.in-Some-next_page.ensures (c.contains.ensures.0 c.if-not-contains.false) c.in-Some-moved_page.ensures

pub loop-present-preserved : goal.loop-present-preserved
loop-present-preserved c =
    let first = c.loop-present.invariant.1 in
    let low = c.in-Some-next_page.ensures.«from» in
    (looked_on _ _ _ _ _ _ _ _ _ _ c.loop-present.invariant.0 c.in-Some-next_page.ensures c.in_default-moved_page.ensures, omega (arith, first, low))
