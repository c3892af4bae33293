use Rattle.std.proofs.Common.{sym}
use Rattle.l4_threads.proofs.DeleteLemmas.{frees_here, frees_not}
use Rattle.l4_threads.proofs.entries.free_all.Goals as goal
use Rattle.l4_threads.proofs.entries.free_all.Goals.{then-is_freed_by, else-is_freed_by}

pub loop-i-preserved : goal.loop-i-preserved
loop-i-preserved c =
    elim c.if-is_freed_by.branch [
      | then-is_freed_by w ↦
          frees_here c.args.entries.now c.loop-i.entries c.if-is_freed_by.entries c.loop-i.i c.args.victim c.index-entries-i.result w.index-entries-i-then-is_freed_by.result w.index-entries-i-then-is_freed_by-2.result
          w.reply_without_partner-reply.result c.loop-i-test.true c.loop-i.invariant (sym w.if-is_freed_by.ensures) w.reply_without_partner-reply.ensures (rw (← w.run.ensures) w.entries-is)
      | else-is_freed_by w ↦
          frees_not c.args.entries.now c.loop-i.entries c.if-is_freed_by.entries c.loop-i.i c.args.victim c.index-entries-i.result c.loop-i-test.true c.loop-i.invariant (sym w.if-is_freed_by.ensures) w.entries-is
    ]
