use Rattle.std.proofs.Common.{[], ◌∷◌, ap}
use Rattle.l4_answers.specs.Refusals.{Refusal}
use Rattle.l4_answers.specs.Reports.{RefusedLine}
use Rattle.l4_shell.proofs.Delegating.{delegates_on, delegates_not}
use Rattle.l4_shell.proofs.session.Session.delegate.Goals as goal

pub returns-in-Ok : goal.returns-in-Ok
returns-in-Ok g c = delegates_on g.S.Sink.has_told _ _ _ _ _ _ _ _ _ _ _ _ c.page_size-size.ensures c.in-Ok.ensures.ok c.send_call-call.ensures c.enter_and_follow.ensures

pub returns-in-Err : goal.returns-in-Err
returns-in-Err g c = delegates_not g.S.Sink.has_told _ _ _ _ _ _ _ _ _ _ _ c.page_size-size.ensures c.in-Err.ensures.err (ap (λ (r : Refusal). RefusedLine c.args.line r ∷ []) c.plan_code.ensures) c.refused_line.ensures
