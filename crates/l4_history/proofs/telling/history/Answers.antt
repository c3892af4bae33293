use Rattle.std.proofs.Common.{refl}
use Rattle.l4_text.proofs.Telling.{all_out, some_out}
use Rattle.l4_history.proofs.GoingOut.{goes_out, begins_to}
use Rattle.l4_history.proofs.telling.history.Goals as goal

pub returns-in-Ok : goal.returns-in-Ok
returns-in-Ok g c = goes_out _ _ _ _ _ _ _ _ _ _ _ c.in-Some.ensures refl (all_out _ _ _ _ _ _ c.new-out.ensures c.tell_steps.ensures c.in-Ok.ensures.ok)

pub returns : goal.returns
returns g c = begins_to _ _ _ _ _ _ _ _ _ _ _ c.in-Some.ensures refl (some_out _ _ _ _ _ _ c.new-out.ensures c.tell_steps.ensures c.in-Err.ensures.err.1)
