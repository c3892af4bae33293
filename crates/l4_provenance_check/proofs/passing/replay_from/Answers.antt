use Rattle.std.proofs.Common.{arith, sym, ◌∙◌, ◌≡◌, length}
use Rattle.l4_record.proofs.Replayed.{done_next, done_all, done_fails}
use Rattle.l4_provenance_check.proofs.passing.replay_from.Goals as goal

pub loop-number-init : goal.loop-number-init
loop-number-init c = λ boot events. record { within = c.requires; events = events }

pub returns-in-Err-clause-err : goal.returns-in-Err-clause-err
returns-in-Err-clause-err c = λ boot events.
    done_fails boot c.args.history.now.entries c.loop-number.number c.loop-number.kernel c.redo.new.kernel c.in-Some.entry (sym c.get.ensures ∙ c.in-Some.is) (c.loop-number.invariant boot events) c.in-Err.fault c.in-Err.ensures.err

pub loop-number-preserved : goal.loop-number-preserved
loop-number-preserved c = λ boot events.
    done_next boot c.args.history.now.entries c.loop-number.number c.loop-number.kernel c.redo.new.kernel c.in-Some.entry (sym c.get.ensures ∙ c.in-Some.is) c.in_default-redo.ensures.ok
    (c.loop-number.invariant boot events) c.law_forest.ensures

pub returns-clause-ok : goal.returns-clause-ok
returns-clause-ok c = λ boot events.
    let end : c.loop-number.number ≡ length c.args.history.now.entries = omega (arith, c.loop-number-test.false, c.loop-number.auto.number-end, c.len-number-end.ensures) in
    done_all boot c.args.history.now.entries c.loop-number.number c.loop-number.kernel end (c.loop-number.invariant boot events)
