use Rattle.std.proofs.Common.{arith, sym, ◌∙◌, ◌≡◌, length}
use Rattle.l4_record.proofs.Replayed.{done_first, done_next, done_all, done_fails}
use Rattle.l4_provenance.proofs.replaying.replay.Goals as goal

pub loop-number-init : goal.loop-number-init
loop-number-init g c = done_first c.args.kernel.now (g.H.Replayable.entries c.args.history.now) c.law_forest.ensures

pub returns-in-Err-clause-err : goal.returns-in-Err-clause-err
returns-in-Err-clause-err g c =
    done_fails c.args.kernel.now (g.H.Replayable.entries c.args.history.now) c.loop-number.number c.loop-number.kernel c.repeat_entry.new.kernel c.in-Some.entry (sym c.get.ensures ∙ c.in-Some.is) c.loop-number.invariant c.in-Err.fault c.in-Err.ensures.err

pub loop-number-preserved : goal.loop-number-preserved
loop-number-preserved g c =
    done_next c.args.kernel.now (g.H.Replayable.entries c.args.history.now) c.loop-number.number c.loop-number.kernel c.repeat_entry.new.kernel c.in-Some.entry (sym c.get.ensures ∙ c.in-Some.is) c.in_default-repeat_entry.ensures.ok
    c.loop-number.invariant c.law_forest-in-loop-number.ensures

pub returns-clause-ok : goal.returns-clause-ok
returns-clause-ok g c =
    let end : c.loop-number.number ≡ length (g.H.Replayable.entries c.args.history.now) = omega (arith, c.loop-number-test.false, c.loop-number.auto.number-end, c.len-number-end.ensures) in
    done_all c.args.kernel.now (g.H.Replayable.entries c.args.history.now) c.loop-number.number c.loop-number.kernel end c.loop-number.invariant
