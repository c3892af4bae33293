use Rattle.std.proofs.Common.{sym, ap, ◌∙◌, is_some}
use Rattle.l4_provenance_check.proofs.Followed.{followed_next, replayed_all, walked_all, stuck, fails_in, done_with}
use Rattle.l4_record.proofs.Same.{none_left}
use Rattle.l4_record.proofs.Choice.{none_is, some_is}
use Rattle.l4_provenance_check.proofs.checks.leads.Goals as goal

pub returns-in-Ok-None-clause-only : goal.returns-in-Ok-None-clause-only
returns-in-Ok-None-clause-only c = λ w.
    absurd (stuck c.args.kernel.now c.args.history.now.entries c.args.place c.args.links.now c.loop-entry.number c.loop-entry.kernel c.loop-entry.reached c.loop-entry.left.now c.in-Some.entry _ _
    c.in-Some.ensures.steps c.loop-entry.invariant (none_is _ _ _ c.in-Ok-None.field-0-is c.in-Ok-None.ensures.ok.1) w)

pub returns-in-Ok-None-clause-run : goal.returns-in-Ok-None-clause-run
returns-in-Ok-None-clause-run c =
    c.in_default.ensures.ok c.args.kernel.now
    (done_with c.args.kernel.now c.args.history.now.entries c.args.place c.args.links.now c.loop-entry.number c.loop-entry.kernel c.loop-entry.reached c.loop-entry.left.now c.in-Some.entry _ _
    c.in-Some.ensures.steps c.loop-entry.invariant c.pass.new.kernel c.in-Ok-None.ensures.ok.0 c.law_forest-in-Ok-None.ensures)

pub returns-in-Err-replay_from-clause-err : goal.returns-in-Err-replay_from-clause-err
returns-in-Err-replay_from-clause-err c =
    c.in-Err-replay_from.ensures.err c.args.kernel.now
    (done_with c.args.kernel.now c.args.history.now.entries c.args.place c.args.links.now c.loop-entry.number c.loop-entry.kernel c.loop-entry.reached c.loop-entry.left.now c.in-Some.entry _ _
    c.in-Some.ensures.steps c.loop-entry.invariant c.pass.new.kernel c.in-Ok-None.ensures.ok.0 c.law_forest-in-Ok-None.ensures)

pub returns-in-Err-clause-err : goal.returns-in-Err-clause-err
returns-in-Err-clause-err c =
    fails_in c.args.kernel.now c.args.history.now.entries c.args.place c.args.links.now c.loop-entry.number c.loop-entry.kernel c.loop-entry.reached c.loop-entry.left.now c.in-Some.entry _ _
    c.in-Some.ensures.steps c.loop-entry.invariant c.pass.new.kernel c.in-Err.fault c.in-Err.ensures.err

pub loop-entry-preserved : goal.loop-entry-preserved
loop-entry-preserved c =
    let ok = c.in-Ok-Some.ensures.ok in
    followed_next c.args.kernel.now c.args.history.now.entries c.args.place c.args.links.now c.loop-entry.number c.loop-entry.kernel c.pass.new.kernel c.loop-entry.reached c.in-Ok-Some.next c.loop-entry.left.now
    c.in-Ok-Some.rest.now c.in-Some.entry _ _ c.in-Some.ensures.steps c.loop-entry.invariant ok.0 (some_is _ _ _ _ c.in-Ok-Some.field-0-is ok.1) c.law_forest-in-loop-entry.ensures

pub returns-then-not-there-clause-run : goal.returns-then-not-there-clause-run
returns-then-not-there-clause-run c =
    replayed_all c.args.kernel.now c.args.history.now.entries c.args.place c.args.links.now c.loop-entry.number c.loop-entry.kernel c.loop-entry.reached c.loop-entry.left.now _
    c.in-None.ensures.steps.0 c.loop-entry.invariant

pub returns-then-not-is_empty-clause-run : goal.returns-then-not-is_empty-clause-run
returns-then-not-is_empty-clause-run c =
    replayed_all c.args.kernel.now c.args.history.now.entries c.args.place c.args.links.now c.loop-entry.number c.loop-entry.kernel c.loop-entry.reached c.loop-entry.left.now _
    c.in-None.ensures.steps.0 c.loop-entry.invariant

pub returns-clause-run : goal.returns-clause-run
returns-clause-run c =
    replayed_all c.args.kernel.now c.args.history.now.entries c.args.place c.args.links.now c.loop-entry.number c.loop-entry.kernel c.loop-entry.reached c.loop-entry.left.now _
    c.in-None.ensures.steps.0 c.loop-entry.invariant

pub returns-clause-yes : goal.returns-clause-yes
returns-clause-yes c = λ h.
    walked_all c.args.kernel.now c.args.history.now.entries c.args.place c.args.links.now c.loop-entry.number c.loop-entry.kernel c.loop-entry.reached c.loop-entry.left.now _
    c.in-None.ensures.steps.0 c.loop-entry.invariant (none_left _ (sym c.is_empty.ensures ∙ c.if-not-is_empty.false)) (c.is_at.ensures.0 h) (sym (c.is_some-there.ensures ∙ ap is_some c.mapping.ensures) ∙ c.if-not-there.false)
