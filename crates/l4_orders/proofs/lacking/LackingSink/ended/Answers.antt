use Rattle.std.proofs.Common.{refl}
use Rattle.std.specs.Option.{option_copied}
use Rattle.l4_answers.specs.Reports.{Ended}
use Rattle.l4_orders.proofs.Noting.{noted_other}
use Rattle.l4_orders.proofs.lacking.LackingSink.ended.Goals as goal

pub returns : goal.returns
returns c = λ first told h. noted_other first c.args.self.now told (Ended c.args.number (option_copied c.args.reply)) refl h
