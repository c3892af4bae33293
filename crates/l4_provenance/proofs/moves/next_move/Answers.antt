use Rattle.std.proofs.Common.{arith}
use Rattle.l4_provenance.proofs.Moving.{parties_of, passed_first, passed_on, passed_all, passed_next}
use Rattle.l4_provenance.proofs.moves.next_move.Goals as goal

pub returns-in_default : goal.returns-in_default
returns-in_default c = λ move h reached. c.in_default.ensures _ _ _ _ (parties_of _ _ move h)

pub loop-number-init : goal.loop-number-init
loop-number-init c = passed_first _ _ _ _ _ _ c.in-Some.ensures _ _

pub returns-in-Some-next_of_item : goal.returns-in-Some-next_of_item
returns-in-Some-next_of_item c = passed_next _ _ _ _ _ _ c.in-Some.ensures _ _ _ _ _ c.loop-number.invariant c.in-Some-next_of_item.ensures

pub loop-number-preserved : goal.loop-number-preserved
loop-number-preserved c = passed_on _ _ _ _ _ _ c.in-Some.ensures _ _ _ _ c.loop-number.invariant c.in_default-next_of_item.ensures

pub returns : goal.returns
returns c = passed_all _ _ _ _ _ _ c.in-Some.ensures _ _ _ _ c.loop-number.invariant (let all = c.loop-number-test.false in omega (arith, all))
