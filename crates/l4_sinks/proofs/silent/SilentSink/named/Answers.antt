use Rattle.std.proofs.Common.{refl}
use Rattle.l4_answers.specs.Reports.{Named}
use Rattle.l4_sinks.proofs.Hearing.{heard_other}
use Rattle.l4_sinks.proofs.silent.SilentSink.named.Goals as goal

pub returns : goal.returns
returns c = λ first told h. heard_other first c.args.self.now told (Named c.args.number) refl h
