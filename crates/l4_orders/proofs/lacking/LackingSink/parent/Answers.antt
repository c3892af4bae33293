use Rattle.std.proofs.Common.{refl}
use Rattle.l4_answers.specs.Reports.{Parent}
use Rattle.l4_orders.proofs.Noting.{noted_other}
use Rattle.l4_orders.proofs.lacking.LackingSink.parent.Goals as goal

pub returns : goal.returns
returns c = λ first told h. noted_other first c.args.self.now told (Parent c.args.mapping) refl h
