use Rattle.std.proofs.Common.{refl}
use Rattle.l4_text.proofs.Telling.{tells_more}
use Rattle.l4_answers.specs.Reports.{RefusedAct}
use Rattle.l4_sinks.proofs.Reporting.{told_more, line_said}
use Rattle.l4_sinks.proofs.teller.TellerSink.refused_act.Goals as goal

pub returns : goal.returns
returns g c = λ first told h.
    told_more g.W.Write.contents first _ _ told (RefusedAct c.args.thread c.args.code.now) _ h refl refl refl refl
    (tells_more _ _ _ _ _ _ _ _ c.put_refused_act.ensures c.say_act.ensures)
    (line_said c.args.self.now.explains (RefusedAct c.args.thread c.args.code.now) _ (λ size. refl))
