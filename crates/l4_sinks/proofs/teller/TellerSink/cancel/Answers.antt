use Rattle.std.proofs.Common.{ℕ, List, ap, refl}
use Rattle.l4_text.proofs.Telling.{tells_is, tells_more}
use Rattle.l4_sinks.specs.Texts.{said}
use Rattle.l4_answers.specs.Reports.{Canceled}
use Rattle.l4_sinks.proofs.Reporting.{told_more, line_said}
use Rattle.l4_sinks.proofs.teller.TellerSink.cancel.Goals as goal

pub returns : goal.returns
returns g c = λ first told h.
    told_more g.W.Write.contents first _ _ told (Canceled c.args.number c.args.cause) _ h refl refl refl refl
    (tells_more _ _ _ _ _ _ _ _ c.put_cancel.ensures (tells_is _ _ _ _ _ _ (ap (λ (l : List ℕ). said c.args.self.now.explains l) c.canceled_says.ensures.says) c.say.ensures))
    (line_said c.args.self.now.explains (Canceled c.args.number c.args.cause) _ (λ size. refl))
