use Rattle.l4_text.proofs.Telling.{held_gone}
use Rattle.l4_text.proofs.output.Output.send_all.Goals as goal

pub returns-in-Err-clause-told : goal.returns-in-Err-clause-told
returns-in-Err-clause-told g c = held_gone _ _ _ _ _ c.self.view_is c.if-self.false c.in-Err.ensures.err.1
