use Rattle.std.proofs.Common.{refl}
use Rattle.l4_answers.specs.Reports.{Shown}
use Rattle.l4_orders.proofs.Noting.{noted_other}
use Rattle.l4_orders.proofs.lacking.LackingSink.shown.Goals as goal

pub returns : goal.returns
returns c = λ first told h. noted_other first c.args.self.now told (Shown c.args.count) refl h
