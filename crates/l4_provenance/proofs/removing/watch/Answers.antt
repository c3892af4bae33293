use Rattle.std.proofs.Common.{◌≡◌, ◌+◌, ℕ, length, arith, sym, ◌∙◌, subst}
use Rattle.l4_provenance.specs.Inside.Watching.{Watched}
use Rattle.l4_provenance.proofs.Watching.{watched_first, watched_next, watch_fails}
use Rattle.l4_provenance.proofs.removing.watch.Goals as goal

pub loop-number-init : goal.loop-number-init
loop-number-init g c =
    subst (Watched c.args.kernel.now (g.H.Replayable.entries c.args.history.now) 0 c.args.kernel.now c.args.place) (sym c.first_removal-removal.ensures)
    (watched_first c.args.kernel.now (g.H.Replayable.entries c.args.history.now) c.args.place c.is_present.result c.law_forest.ensures c.is_present.ensures)

pub returns-in-Err-clause-err : goal.returns-in-Err-clause-err
returns-in-Err-clause-err g c =
    watch_fails c.args.kernel.now (g.H.Replayable.entries c.args.history.now) c.loop-number.number c.loop-number.kernel c.repeat_entry.new.kernel c.args.place c.in-Some.entry (sym c.get.ensures ∙ c.in-Some.is) c.loop-number.removal
    c.loop-number.invariant c.in-Err.fault c.in-Err.ensures.err

pub loop-number-preserved : goal.loop-number-preserved
loop-number-preserved g c =
    subst (Watched c.args.kernel.now (g.H.Replayable.entries c.args.history.now) (c.loop-number.number + 1) c.repeat_entry.new.kernel c.args.place) (sym c.next_removal-removal.ensures)
    (watched_next c.args.kernel.now (g.H.Replayable.entries c.args.history.now) c.loop-number.number c.loop-number.kernel c.repeat_entry.new.kernel c.args.place c.in-Some.entry (sym c.get.ensures ∙ c.in-Some.is)
    c.in_default-repeat_entry.ensures.ok c.loop-number.removal c.is_present-in-loop-number.result c.loop-number.invariant c.law_forest-in-loop-number.ensures c.is_present-in-loop-number.ensures)

pub returns-clause-ok : goal.returns-clause-ok
returns-clause-ok g c =
    let end : c.loop-number.number ≡ length (g.H.Replayable.entries c.args.history.now) = omega (arith, c.loop-number-test.false, c.loop-number.auto.number-end, c.len-number-end.ensures) in
    subst (λ (n : ℕ). Watched c.args.kernel.now (g.H.Replayable.entries c.args.history.now) n c.loop-number.kernel c.args.place c.loop-number.removal) end c.loop-number.invariant
