use Rattle.std.proofs.Common.{inl, inr, refl}
use Rattle.l4_outcomes.proofs.Lacking.{lacks_by}
use Rattle.l4_outcomes.proofs.searching.search.Goals as goal

pub returns-in-Err : goal.returns-in-Err
returns-in-Err c = inr (c.if-not-has_frames.ensures.yes refl, inl (c.read_plan.new.reader.now, c.in-Err.fault, c.in-Err.ensures, c.fault_told.ensures))

pub returns-in-Ok-all_orders : goal.returns-in-Ok-all_orders
returns-in-Ok-all_orders c = (c.read_plan.new.reader.now, c.if-not-has_frames.ensures.yes refl, c.in-Ok.ensures, c.in-Ok-all_orders.ensures)

pub returns-in-Err-all_orders : goal.returns-in-Err-all_orders
returns-in-Err-all_orders c = inr (c.if-not-has_frames.ensures.yes refl, inr (c.read_plan.new.reader.now, c.in-Ok.plan, c.in-Ok.ensures, lacks_by c.args.frames c.args.size c.in-Ok.plan c.in-Err-all_orders.failure c.failure_told.result c.in-Err-all_orders.ensures c.failure_told.ensures))
