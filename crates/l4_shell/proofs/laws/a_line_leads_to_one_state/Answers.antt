use Rattle.l4_determined.proofs.InOrder.{consistent_in_order}
use Rattle.l4_shell.proofs.OneState.{one_answered}
use Rattle.l4_shell.proofs.laws.a_line_leads_to_one_state.Goals as goal

pub returns : goal.returns
returns c = λ s t line asked told other new also alike names consistent.
    one_answered s t line asked told other new also alike names (consistent_in_order s.session.machine.threads consistent)
