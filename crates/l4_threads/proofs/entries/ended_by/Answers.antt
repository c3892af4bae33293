use Rattle.std.proofs.Common.{sym, arith}
use Rattle.l4_threads.proofs.DeleteLemmas.{ends_here, ends_not}
use Rattle.l4_threads.proofs.entries.ended_by.Goals as goal
use Rattle.l4_threads.proofs.entries.ended_by.Goals.{then-ends_with, else-ends_with}

pub loop-entry-preserved : goal.loop-entry-preserved
loop-entry-preserved c =
    let es = c.args.entries.now in
    let i = c.loop-entry.entry-index in
    let few = c.loop-entry.invariant.few in
    elim c.if-ends_with.branch [
      | then-ends_with w ↦
          let len = w.insert_rising.ensures.len in
          rw w.ended-is (record {
            so_far = rw w.insert_rising.ensures.items (ends_here es i c.args.victim c.entry-item.result c.loop-entry.ended.items c.loop-entry-test.true c.entry-item.is c.loop-entry.invariant.so_far (sym w.if-ends_with.ensures));
            few = omega arith;
          })
      | else-ends_with w ↦
          rw w.ended-is (record {
            so_far = ends_not es i c.args.victim c.entry-item.result c.loop-entry.ended.items c.loop-entry-test.true c.entry-item.is c.loop-entry.invariant.so_far (sym w.if-ends_with.ensures);
            few = omega arith;
          })
    ]
