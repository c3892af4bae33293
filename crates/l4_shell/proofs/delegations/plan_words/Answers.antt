use Rattle.std.proofs.Common.{Err, ap}
use Rattle.l4_shell.proofs.Delegating.{no_plan}
use Rattle.l4_shell.proofs.delegations.plan_words.Goals as goal

pub returns-in-Err-clause-err : goal.returns-in-Err-clause-err
returns-in-Err-clause-err c =
    no_plan c.in-Err.refusal c.args.size c.args.region.now c.args.which (λ is. c.in-Err.ensures.empty.0 (ap Err is)) (λ is. c.in-Err.ensures.out_of_space.0 (ap Err is)) (λ is. c.in-Err.ensures.no_rights.0 (ap Err is))
    c.in-Err.ensures.too_long c.in-Err.ensures.others
