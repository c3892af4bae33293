use Rattle.l4_sinks.proofs.Hearing.{finds_ok, finds_err}
use Rattle.l4_sinks.proofs.scripts.first_refusal.Goals as goal

pub returns-in-Ok : goal.returns-in-Ok
returns-in-Ok g c =
    finds_ok _ _ _ _ _ _ _ _ _ _ (record { strict_is = c.new-silent.ensures.strict; refused_is = c.new-silent.ensures.refused }) c.in-Ok.is c.into_refused-refused.ensures c.in-Some.ensures

pub returns : goal.returns
returns g c =
    finds_err _ _ _ _ _ _ _ _ _ (record { strict_is = c.new-silent.ensures.strict; refused_is = c.new-silent.ensures.refused }) c.in-Err.is c.in-Some.ensures
