use Rattle.std.proofs.Common.{ap}
use Rattle.l4_orders.specs.Inside.Parts.{parts_of}
use Rattle.l4_orders.specs.Reading.{no_parts}
use Rattle.l4_orders.proofs.PlanLines.{so_far_none, so_far_on, stops_read, ends_all, fails_at}
use Rattle.l4_orders.proofs.reading.read_lines.Goals as goal

pub loop-number-init : goal.loop-number-init
loop-number-init g c = so_far_none _ _ _ _ c.requires (ap (λ p. p.0) c.new-lines.ensures)

pub returns-in-Err : goal.returns-in-Err
returns-in-Err g c = stops_read _ _ _ _ _ _ _ _ _ no_parts _ c.loop-number.invariant c.in-Err.ensures

pub returns-in_default : goal.returns-in_default
returns-in_default g c = ends_all _ _ _ _ _ _ _ _ _ _ c.loop-number.invariant c.in-Ok.ensures c.in_default.is

pub returns-in-Err-take_line : goal.returns-in-Err-take_line
returns-in-Err-take_line g c =
    fails_at c.in-Some.ending _ _ _ _ _ _ _ _ _ (parts_of c.take_line.new.self) no_parts _ _ _ c.loop-number.invariant c.in-Ok.ensures c.in-Some.is c.line.ensures c.in-Err-take_line.ensures

pub loop-number-preserved : goal.loop-number-preserved
loop-number-preserved g c =
    so_far_on c.in-Some.ending _ _ _ _ _ _ _ _ _ _ _ _ c.loop-number.invariant c.in-Ok.ensures c.in-Some.is c.line.ensures c.in-Ok-take_line.ensures
