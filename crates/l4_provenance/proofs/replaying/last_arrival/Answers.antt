use Rattle.std.proofs.Common.{◌≡◌, ◌+◌, not, arith, is_some, sym, ap, ◌∙◌, subst, Option}
use Rattle.l4_record.specs.declared.links.ChainLink.{ChainLink}
use Rattle.l4_provenance.proofs.Sofar.{Sofar, sofar_next, sofar_by, fails_in}
use Rattle.l4_provenance.proofs.replaying.last_arrival.Goals as goal

pub returns-in-Err-clause-err : goal.returns-in-Err-clause-err
returns-in-Err-clause-err g c =
    fails_in c.args.kernel.now (g.H.Replayable.entries c.args.history.now) c.loop-number.number c.loop-number.kernel c.repeat_entry.new.kernel c.args.place c.loop-number.last c.in-Some.entry (sym c.get.ensures ∙ c.in-Some.is) c.loop-number.invariant
    c.in-Err.fault c.in-Err.ensures.err

pub loop-number-preserved : goal.loop-number-preserved
loop-number-preserved g c =
    subst (λ (o : Option ChainLink). Sofar c.args.kernel.now (g.H.Replayable.entries c.args.history.now) (c.loop-number.number + 1) c.repeat_entry.new.kernel c.args.place o) (sym c.newer_of-last.ensures)
    (sofar_next c.args.kernel.now (g.H.Replayable.entries c.args.history.now) c.loop-number.number c.loop-number.kernel c.repeat_entry.new.kernel c.args.place c.in-Some.entry (sym c.get.ensures ∙ c.in-Some.is) c.in_default-repeat_entry.ensures.ok
    c.delivered_link-link.result c.loop-number.last c.loop-number.invariant c.delivered_link-link.ensures c.law_forest-in-loop-number.ensures)

pub returns-in-Some-last-clause-ok : goal.returns-in-Some-last-clause-ok
returns-in-Some-last-clause-ok g c =
    let end : c.loop-number.number ≡ c.args.count = omega (arith, c.loop-number-test.false, c.loop-number.auto.number-end) in
    let there = sym (ap is_some c.mapping.ensures) ∙ c.is_none.ensures ∙ ap not c.if-is_none.false in
    sofar_by c.args.kernel.now (g.H.Replayable.entries c.args.history.now) c.loop-number.number c.args.count c.loop-number.kernel c.args.place c.loop-number.last c.in-Some-last.link c.loop-number.invariant end c.in-Some-last.is there
