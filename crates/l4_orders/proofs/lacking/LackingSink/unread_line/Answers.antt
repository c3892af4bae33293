use Rattle.std.proofs.Common.{refl}
use Rattle.l4_answers.specs.Reports.{UnreadLine}
use Rattle.l4_orders.proofs.Noting.{noted_other}
use Rattle.l4_orders.proofs.lacking.LackingSink.unread_line.Goals as goal

pub returns : goal.returns
returns c = λ first told h. noted_other first c.args.self.now told (UnreadLine c.args.size c.args.names.now c.args.line c.args.code.now c.args.bytes.now) refl h
