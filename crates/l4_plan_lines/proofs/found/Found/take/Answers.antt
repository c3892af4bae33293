use Rattle.l4_plan_lines.proofs.FoundLemmas.{after_wrong}
use Rattle.l4_plan_lines.proofs.found.Found.take.Goals as goal

pub returns-in-Some : goal.returns-in-Some
returns-in-Some c lines bytes ends h = after_wrong c.args.ending c.args.self.now lines bytes c.in-Some.field-0 c.in-Some.is h
