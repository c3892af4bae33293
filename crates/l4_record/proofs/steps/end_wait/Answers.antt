use Rattle.std.proofs.Common.{refl}
use Rattle.l4_record.proofs.Ending.{wait_ended}
use Rattle.l4_record.proofs.steps.end_wait.Goals as goal

pub returns-in-Ok-clause-ok : goal.returns-in-Ok-clause-ok
returns-in-Ok-clause-ok c =
    wait_ended _ _ _ _ _ _ c.law_consistent.ensures c.in-Ok.ensures c.law_forest.ensures c.push_cancel.ensures.entries

pub returns-in-Err-clause-err : goal.returns-in-Err-clause-err
returns-in-Err-clause-err c = (c.in-Err.ensures.0, c.in-Err.ensures.1, refl)

pub returns-in-Err-clause-same : goal.returns-in-Err-clause-same
returns-in-Err-clause-same c = (c.in-Err.ensures.2, refl)
