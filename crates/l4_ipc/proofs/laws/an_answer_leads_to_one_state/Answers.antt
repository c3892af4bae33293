use Rattle.l4_ipc.proofs.OneState.{one_step}
use Rattle.l4_ipc.proofs.laws.an_answer_leads_to_one_state.Goals as goal

pub returns : goal.returns
returns c = one_step
