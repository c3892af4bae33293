use Rattle.std.proofs.Common.{refl}
use Rattle.l4_answers.specs.Reports.{UnreadLine}
use Rattle.l4_sinks.proofs.Hearing.{heard_kept, heard_plainly}
use Rattle.l4_sinks.proofs.silent.SilentSink.unread_line.Goals as goal

pub returns-then-self : goal.returns-then-self
returns-then-self c = λ first told h.
    heard_kept first c.args.self.now _ told (UnreadLine c.args.size c.args.names.now c.args.line c.args.code.now c.args.bytes.now) refl c.if-self.true c.keep_unread.ensures.strict c.keep_unread.ensures.refused h

pub returns-else-self : goal.returns-else-self
returns-else-self c = λ first told h. heard_plainly first c.args.self.now told (UnreadLine c.args.size c.args.names.now c.args.line c.args.code.now c.args.bytes.now) refl c.if-self.false h
