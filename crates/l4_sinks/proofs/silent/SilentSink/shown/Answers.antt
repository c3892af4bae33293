use Rattle.std.proofs.Common.{refl}
use Rattle.l4_answers.specs.Reports.{Shown}
use Rattle.l4_sinks.proofs.Hearing.{heard_other}
use Rattle.l4_sinks.proofs.silent.SilentSink.shown.Goals as goal

pub returns : goal.returns
returns c = λ first told h. heard_other first c.args.self.now told (Shown c.args.count) refl h
