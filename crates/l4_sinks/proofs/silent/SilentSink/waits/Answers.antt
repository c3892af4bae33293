use Rattle.std.proofs.Common.{refl}
use Rattle.l4_answers.specs.Reports.{Waits}
use Rattle.l4_sinks.proofs.Hearing.{heard_other}
use Rattle.l4_sinks.proofs.silent.SilentSink.waits.Goals as goal

pub returns : goal.returns
returns c = λ first told h. heard_other first c.args.self.now told (Waits c.args.number) refl h
