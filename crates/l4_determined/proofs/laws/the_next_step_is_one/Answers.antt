use Rattle.l4_determined.proofs.InOrder.{consistent_in_order}
use Rattle.l4_determined.proofs.OneNext.{one_next}
use Rattle.l4_determined.proofs.laws.the_next_step_is_one.Goals as goal

pub returns : goal.returns
returns c = λ m s t consistent x y. one_next m s t (consistent_in_order m.threads consistent) x y
