use Rattle.std.proofs.Common.{refl}
use Rattle.l4_sinks.proofs.Reporting.{told_still}
use Rattle.l4_sinks.proofs.teller.TellerSink.before_line.Goals as goal

pub returns : goal.returns
returns g c = λ first told h. told_still g.W.Write.contents first _ _ told h refl refl refl c.send_before_line.ensures.told
