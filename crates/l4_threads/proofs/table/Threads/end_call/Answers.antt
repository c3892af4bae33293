use Rattle.std.proofs.Common.{refl}
use Rattle.l4_threads.proofs.EndingLemmas.{ending_there, ended_kept, ended_seen}
use Rattle.l4_threads.proofs.table.Threads.end_call.Goals as goal

pub run-sent-requires : goal.run-sent-requires
run-sent-requires c = ending_there c.self.inside c.args.self.now c.self.view_is c.args.number c.requires

pub invariant_of-self : goal.invariant_of-self
invariant_of-self c =
    ended_kept c.self.inside c.args.self.now c.self.view_is c.args.number c.requires c.self.invariant c.args.reply _ c.run-sent.ensures.value c.leave_if.ensures refl c.with_running-self-inside.ensures

pub returns : goal.returns
returns c =
    rw (c.run-sent.ensures.value, c.leave_if.ensures)
    (ended_seen c.self.inside c.args.self.now c.self.view_is c.args.number c.requires c.self.invariant c.args.reply)
