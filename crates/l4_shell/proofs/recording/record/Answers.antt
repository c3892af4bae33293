use Rattle.std.proofs.Common.{sym, subst, ◌∙◌}
use Rattle.l4_record.specs.Seated.{Seated}
use Rattle.l4_shell.specs.Inside.Scripts.{HasFirstSeats}
use Rattle.l4_shell.proofs.Scripting.{records_on, first_is}
use Rattle.l4_shell.proofs.recording.record.Goals as goal

pub returns : goal.returns
returns g c =
    let has = subst (λ (k : Seated). HasFirstSeats c.args.frames c.args.size k) (sym c.new-script.ensures.0) c.in-Some.ensures in
    records_on g.S.Sink.has_told g.S.Sink.closed _ _ _ _ _ _ _ _ _ _ _ _ _ _ _ c.answer_all-answered.result _ has.0 has.4 (first_is _ _ _ _ _ has (c.new-script.ensures.1 ∙ c.new.ensures) c.new-script.ensures.2) c.answer_all-answered.ensures.told
    (c.answer_all-answered.ensures.kept has.5) c.into_history.ensures
