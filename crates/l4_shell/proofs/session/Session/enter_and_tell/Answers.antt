use Rattle.std.proofs.Common.{[], ◌∷◌, ap}
use Rattle.l4_answers.specs.Refusals.{Refusal}
use Rattle.l4_answers.specs.Reports.{RefusedLine}
use Rattle.l4_shell.proofs.Going.{calls_on, refusal_told}
use Rattle.l4_shell.proofs.session.Session.enter_and_tell.Goals as goal

pub returns-in-Ok-clause-told : goal.returns-in-Ok-clause-told
returns-in-Ok-clause-told g c = calls_on g.S.Sink.has_told _ _ _ _ _ _ _ _ _ _ c.in-Ok.ensures.ok c.kernel-kernel.ensures c.tell_appended.ensures

pub returns-in-Err-clause-told : goal.returns-in-Err-clause-told
returns-in-Err-clause-told g c = refusal_told g.S.Sink.has_told _ _ _ _ _ _ _ _ _ c.in-Err.ensures.err (ap (λ (r : Refusal). RefusedLine c.args.line r ∷ []) c.call_code.ensures) c.refused_line.ensures
