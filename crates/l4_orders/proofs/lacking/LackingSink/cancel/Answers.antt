use Rattle.std.proofs.Common.{refl}
use Rattle.l4_answers.specs.Reports.{Canceled}
use Rattle.l4_orders.proofs.Noting.{noted_other}
use Rattle.l4_orders.proofs.lacking.LackingSink.cancel.Goals as goal

pub returns : goal.returns
returns c = λ first told h. noted_other first c.args.self.now told (Canceled c.args.number c.args.cause) refl h
