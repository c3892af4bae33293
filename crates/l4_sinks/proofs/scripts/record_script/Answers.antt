use Rattle.std.proofs.Common.{Option, option_map, ap, ◌∙◌}
use Rattle.l4_sinks.specs.declared.reasons.LineRefusal.{LineRefusal}
use Rattle.l4_sinks.proofs.Hearing.{records_ok, records_err}
use Rattle.l4_sinks.proofs.scripts.record_script.Goals as goal

pub returns-in-Ok : goal.returns-in-Ok
returns-in-Ok g c =
    records_ok _ _ _ _ _ _ _ _ _ _ (record { strict_is = c.new-silent.ensures.strict; refused_is = c.new-silent.ensures.refused }) c.in-Ok.is
    (c.reason_of-refused.ensures ∙ ap (λ (o : Option LineRefusal). option_map (λ (r : LineRefusal). r.reason) o) c.into_refused.ensures) c.in-Some.ensures

pub returns-in-Err : goal.returns-in-Err
returns-in-Err g c =
    records_err _ _ _ _ _ _ _ _ _ _ (record { strict_is = c.new-silent.ensures.strict; refused_is = c.new-silent.ensures.refused }) c.in-Err.is c.in-Some.ensures
