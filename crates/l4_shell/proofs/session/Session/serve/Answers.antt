use Rattle.std.proofs.Common.{[], ◌∷◌, arith, ap, subst}
use Rattle.l4_answers.specs.Refusals.{Refusal}
use Rattle.l4_answers.specs.Reports.{RefusedAct}
use Rattle.l4_ipc.specs.Machine.{Machine}
use Rattle.l4_servers.specs.Acting.{IsFirstReady}
use Rattle.l4_shell.proofs.Going.{calls_on, acting_none, acting_more, acting_quiet, acting_spent, acting_refused, next_act}
use Rattle.l4_shell.proofs.session.Session.serve.Goals as goal

pub loop-init : goal.loop-init
loop-init g c = (acting_none g.S.Sink.has_told _ _ _, c.requires)

pub returns-in_default : goal.returns-in_default
returns-in_default g c =
    acting_quiet g.S.Sink.has_told _ _ _ _ _ _ _ _ _ (omega (arith, c.loop-test.true))
    (acting_more g.S.Sink.has_told _ _ _ _ _ _ _ _ _ _ _ _ _ _ c.loop.invariant.0 (next_act _ _ _ _ _ _ _ c.kernel.ensures c.loop.invariant.1 c.act_into.ensures) (calls_on g.S.Sink.has_told _ _ _ _ _ _ _ _ _ _ c.in-Ok.ensures.ok c.kernel-kernel.ensures c.tell_appended-own.ensures))
    c.kernel-in-loop.ensures c.in_default.ensures

pub returns-in-Err : goal.returns-in-Err
returns-in-Err g c =
    acting_refused g.S.Sink.has_told _ _ _ _ _ _ _ _ _ _ _ _ _ _ _ c.loop-test.true c.loop.invariant.0
    (next_act _ _ _ _ _ _ _ c.kernel.ensures c.loop.invariant.1 c.act_into.ensures) c.in-Err.ensures.err
    (ap (λ (r : Refusal). RefusedAct c.loop.server r ∷ []) c.call_code.ensures) c.refused_act.ensures

pub loop-preserved : goal.loop-preserved
loop-preserved g c = (
  acting_more g.S.Sink.has_told _ _ _ _ _ _ _ _ _ _ _ _ _ _ c.loop.invariant.0 (next_act _ _ _ _ _ _ _ c.kernel.ensures c.loop.invariant.1 c.act_into.ensures) (calls_on g.S.Sink.has_told _ _ _ _ _ _ _ _ _ _ c.in-Ok.ensures.ok c.kernel-kernel.ensures c.tell_appended-own.ensures),
  subst (λ (x : Machine). IsFirstReady x.threads c.act_into.new.self c.in-Some.next) c.kernel-in-loop.ensures c.in-Some.ensures,
)

pub returns : goal.returns
returns g c = acting_spent g.S.Sink.has_told _ _ _ _ _ _ _ (omega (arith, c.loop-test.false, c.loop.auto)) c.loop.invariant.0
