use Rattle.std.proofs.Common.{rules, ap, Ok, Err}
use Rattle.l4_msg.specs.Messages.{MessageReads}
use Rattle.l4_msg.proofs.Reading.{reading_is_unique, reading_excludes_failing, reading_can_be_written, failing_is_unique}
use Rattle.l4_msg.proofs.messages.Message.read.Goals as goal

pub returns-in-Err-clause-only : goal.returns-in-Err-clause-only
returns-in-Err-clause-only c m h = absurd (reading_excludes_failing c.args.words.now m c.in-Err.fault h c.in-Err.ensures.err)

pub returns-in-Err-clause-refused : goal.returns-in-Err-clause-refused
returns-in-Err-clause-refused c fault h = ap Err (failing_is_unique c.args.words.now c.in-Err.fault fault c.in-Err.ensures.err h)

pub returns-in-Err-read_typed-clause-only : goal.returns-in-Err-read_typed-clause-only
returns-in-Err-read_typed-clause-only c m h = absurd (reading_excludes_failing c.args.words.now m c.in-Err-read_typed.fault h c.in-Err-read_typed.ensures.err)

pub returns-in-Err-read_typed-clause-refused : goal.returns-in-Err-read_typed-clause-refused
returns-in-Err-read_typed-clause-refused c fault h = ap Err (failing_is_unique c.args.words.now c.in-Err-read_typed.fault fault c.in-Err-read_typed.ensures.err h)

pub returns-in-Ok-read_typed-clause-only : goal.returns-in-Ok-read_typed-clause-only
returns-in-Ok-read_typed-clause-only c m h =
    let r : MessageReads c.args.words.now (record { label = c.in-Ok.tag.label; untyped = c.copied.result; items = c.in-Ok-read_typed.items }) = search rules in
    ap Ok (reading_is_unique c.args.words.now _ m r h)

pub returns-in-Ok-read_typed-clause-refused : goal.returns-in-Ok-read_typed-clause-refused
returns-in-Ok-read_typed-clause-refused c fault h =
    let r : MessageReads c.args.words.now (record { label = c.in-Ok.tag.label; untyped = c.copied.result; items = c.in-Ok-read_typed.items }) = search rules in
    absurd (reading_excludes_failing c.args.words.now _ fault r h)

pub returns-in-Ok-read_typed-clause-writable : goal.returns-in-Ok-read_typed-clause-writable
returns-in-Ok-read_typed-clause-writable c =
    let r : MessageReads c.args.words.now (record { label = c.in-Ok.tag.label; untyped = c.copied.result; items = c.in-Ok-read_typed.items }) = search rules in
    reading_can_be_written c.args.words.now _ r
