use Rattle.l4_options.proofs.Asking.{steps_in_range}
use Rattle.l4_options.proofs.step_commands.step_options.Goals as goal

pub returns-clause-range : goal.returns-clause-range
returns-clause-range g c = steps_in_range _ _ c.requested.ensures
