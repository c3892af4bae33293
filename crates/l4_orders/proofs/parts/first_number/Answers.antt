use Rattle.l4_orders.proofs.Grouping.{number_some, number_none}
use Rattle.l4_orders.proofs.parts.first_number.Goals as goal

pub returns-in-Some : goal.returns-in-Some
returns-in-Some c = number_some c.args.lines.now c.in-Some.line.now c.in-Some.ensures.value

pub returns-in-None : goal.returns-in-None
returns-in-None c = number_none c.args.lines.now c.in-None.ensures.value
