use Rattle.std.proofs.Common.{[], ◌∷◌, ap}
use Rattle.l4_answers.specs.Refusals.{Refusal}
use Rattle.l4_answers.specs.Reports.{RefusedLine}
use Rattle.l4_shell.proofs.Canceling.{wait_ends, wait_goes_on}
use Rattle.l4_shell.proofs.session.Session.cancel_wait.Goals as goal

pub returns-in-Err : goal.returns-in-Err
returns-in-Err g c =
    wait_goes_on g.S.Sink.has_told _ _ c.args.self.now.servers c.args.line c.args.thread c.args.cause _ _ _ _ c.in-Err.ensures.err (ap (λ (r : Refusal). RefusedLine c.args.line r ∷ []) c.call_code.ensures) c.refused_line.ensures

pub returns : goal.returns
returns g c =
    wait_ends g.S.Sink.has_told _ _ c.args.self.now.servers _ c.args.line c.args.thread c.args.cause _ _ _ _ c.in_default.ensures.ok c.kernel-kernel.ensures c.tell_canceled.ensures c.follow.ensures
