use Rattle.l4_options.proofs.Asking.{in_range}
use Rattle.l4_options.proofs.commands.options.Goals as goal

pub returns-clause-range : goal.returns-clause-range
returns-clause-range g c = in_range _ _ c.requested.ensures
