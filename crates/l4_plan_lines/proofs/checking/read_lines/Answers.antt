use Rattle.std.proofs.Common.{ap}
use Rattle.l4_plan_lines.proofs.FoundLemmas.{so_far_none, ends_here, after_line, after_cut, goes_on, same_bytes}
use Rattle.l4_plan_lines.proofs.checking.read_lines.Goals as goal

pub loop-turn-init : goal.loop-turn-init
loop-turn-init g c = so_far_none _ _ _ (ap (λ p. p.0) c.new-lines.ensures) c.new-found.ensures

pub returns-in_default-clause-ok : goal.returns-in_default-clause-ok
returns-in_default-clause-ok g c = ends_here _ _ _ _ _ _ _ _ c.loop-turn.invariant c.in-Ok.ensures c.in_default.is

pub returns-then-eq-clause-ok : goal.returns-then-eq-clause-ok
returns-then-eq-clause-ok g c =
    after_cut c.in-Some.ending _ _ _ _
    (after_line c.in-Some.ending _ _ _ _ _ _ _ _ _ c.loop-turn.invariant c.in-Ok.ensures c.in-Some.is (same_bytes _ _ _ _ _ c.line.ensures c.take.ensures)) c.if-eq.ensures

pub loop-turn-preserved : goal.loop-turn-preserved
loop-turn-preserved g c =
    goes_on c.in-Some.ending _ _ _ _
    (after_line c.in-Some.ending _ _ _ _ _ _ _ _ _ c.loop-turn.invariant c.in-Ok.ensures c.in-Some.is (same_bytes _ _ _ _ _ c.line.ensures c.take.ensures)) c.if-eq.ensures
