use Rattle.l4_sinks.proofs.Stopping.{stop_right}
use Rattle.l4_sinks.proofs.stops.stop_of.Goals as goal

pub returns-clause-right : goal.returns-clause-right
returns-clause-right c = stop_right _ _ _ _ c.first_stop.ensures
