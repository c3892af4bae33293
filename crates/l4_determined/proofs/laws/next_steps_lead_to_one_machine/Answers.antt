use Rattle.l4_determined.proofs.InOrder.{consistent_in_order}
use Rattle.l4_determined.proofs.OneNext.{one_end}
use Rattle.l4_determined.proofs.laws.next_steps_lead_to_one_machine.Goals as goal

pub returns : goal.returns
returns c = λ old a b xs ys consistent. one_end old a b xs ys (consistent_in_order old.threads consistent)
