use Rattle.std.proofs.Common.{refl}
use Rattle.l4_threads.specs.declared.Reply.TheVariants.{Ipc}
use Rattle.l4_threads.specs.Threads.{message_of}
use Rattle.l4_threads.proofs.EndingLemmas.{ending_there, ended_kept, ended_seen}
use Rattle.l4_threads.proofs.table.Threads.end_ipc.Goals as goal

pub reply-sent-requires-clause-there : goal.reply-sent-requires-clause-there
reply-sent-requires-clause-there c = ending_there c.self.inside c.args.self.now c.self.view_is c.args.number c.requires.there

pub invariant_of-self : goal.invariant_of-self
invariant_of-self c =
    ended_kept c.self.inside c.args.self.now c.self.view_is c.args.number c.requires.there c.self.invariant (Ipc (message_of c.args.envelope c.args.words.now)) _ c.reply-sent.ensures.value c.leave_if.ensures refl
    c.with_running-self-inside.ensures

pub returns : goal.returns
returns c =
    rw (c.reply-sent.ensures.value, c.leave_if.ensures)
    (ended_seen c.self.inside c.args.self.now c.self.view_is c.args.number c.requires.there c.self.invariant (Ipc (message_of c.args.envelope c.args.words.now)))
