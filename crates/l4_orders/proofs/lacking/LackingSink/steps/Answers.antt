use Rattle.std.proofs.Common.{refl}
use Rattle.l4_answers.specs.Reports.{StepCount}
use Rattle.l4_orders.proofs.Noting.{noted_other}
use Rattle.l4_orders.proofs.lacking.LackingSink.steps.Goals as goal

pub returns : goal.returns
returns c = λ first told h. noted_other first c.args.self.now told (StepCount c.args.count) refl h
