use Rattle.l4_orders.proofs.Unique.{one_end}
use Rattle.l4_orders.proofs.laws.outcome_is_unique.Goals as goal

pub returns : goal.returns
returns c = one_end
