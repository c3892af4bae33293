use Rattle.l4_orders.specs.Reading.{no_parts}
use Rattle.l4_orders.proofs.Filing.{finishes_plan, fails_plan}
use Rattle.l4_orders.proofs.reading.read_plan.Goals as goal

pub returns-in-Ok : goal.returns-in-Ok
returns-in-Ok g c = finishes_plan c.finish.result _ _ _ _ c.in-Ok.ensures.0 c.in-Ok.ensures.1 c.finish.ensures

pub returns-in-Err : goal.returns-in-Err
returns-in-Err g c = fails_plan c.in-Err.fault _ _ _ no_parts c.in-Err.ensures
