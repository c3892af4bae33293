use Rattle.std.proofs.Common.{[], ◌∷◌, ap}
use Rattle.l4_answers.specs.Refusals.{Refusal}
use Rattle.l4_answers.specs.Reports.{RefusedLine}
use Rattle.l4_shell.proofs.Going.{creates_on, creates_not}
use Rattle.l4_shell.proofs.session.Session.create_thread.Goals as goal

pub returns-in_default : goal.returns-in_default
returns-in_default g c =
    creates_not g.S.Sink.has_told _ _ _ _ _ _ _ _ _ c.in_default.ensures (ap (λ (r : Refusal). RefusedLine c.args.line r ∷ []) c.memory_code.ensures) c.refused_line.ensures

pub returns : goal.returns
returns g c = creates_on g.S.Sink.has_told _ _ _ _ _ _ _ _ _ c.in-Ok.ensures c.enter_and_follow.ensures
