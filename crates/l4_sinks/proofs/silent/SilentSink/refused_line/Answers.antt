use Rattle.std.proofs.Common.{refl}
use Rattle.l4_answers.specs.Reports.{RefusedLine}
use Rattle.l4_sinks.proofs.Hearing.{heard_kept, heard_plainly}
use Rattle.l4_sinks.proofs.silent.SilentSink.refused_line.Goals as goal

pub returns-then-self : goal.returns-then-self
returns-then-self c = λ first told h.
    heard_kept first c.args.self.now _ told (RefusedLine c.args.line c.args.code.now) refl c.if-self.true c.keep_refused.ensures.strict c.keep_refused.ensures.refused h

pub returns-else-self : goal.returns-else-self
returns-else-self c = λ first told h. heard_plainly first c.args.self.now told (RefusedLine c.args.line c.args.code.now) refl c.if-self.false h
