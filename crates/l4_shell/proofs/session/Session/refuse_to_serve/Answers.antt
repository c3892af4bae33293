use Rattle.std.proofs.Common.{[], ◌∷◌, ap}
use Rattle.l4_answers.specs.Refusals.{Refusal}
use Rattle.l4_answers.specs.Reports.{RefusedLine}
use Rattle.l4_shell.proofs.Served.{lacks, refuses}
use Rattle.l4_shell.proofs.session.Session.refuse_to_serve.Goals as goal

pub returns-then-may_enter-clause-told : goal.returns-then-may_enter-clause-told
returns-then-may_enter-clause-told g c = λ s first.
    lacks g.S.Sink.has_told c.args.self.now.kernel s _ _ _ _ _ first (c.may_enter.ensures.0 c.if-may_enter.true) (ap (λ (r : Refusal). RefusedLine c.args.line r ∷ []) c.memory_code.ensures) c.refused_line.ensures

pub returns-clause-told : goal.returns-clause-told
returns-clause-told g c = λ s first.
    refuses g.S.Sink.has_told c.enter_and_tell.result _ _ s _ _ _ c.may_enter.result _ _ c.wait-call.ensures c.if-may_enter.false c.may_enter.ensures.1 c.enter_and_tell.ensures.told
