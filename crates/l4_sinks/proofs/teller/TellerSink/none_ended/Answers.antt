use Rattle.std.proofs.Common.{ℕ, List, ap, refl}
use Rattle.l4_text.proofs.Telling.{tells_is, tells_more}
use Rattle.l4_sinks.specs.Texts.{said}
use Rattle.l4_answers.specs.Reports.{NoneEnded}
use Rattle.l4_sinks.proofs.Reporting.{told_more, line_said}
use Rattle.l4_sinks.proofs.teller.TellerSink.none_ended.Goals as goal

pub returns : goal.returns
returns g c = λ first told h.
    told_more g.W.Write.contents first _ _ told (NoneEnded c.args.number) _ h refl refl refl refl
    (tells_more _ _ _ _ _ _ _ _ c.put_none.ensures (tells_is _ _ _ _ _ _ (ap (λ (l : List ℕ). said c.args.self.now.explains l) c.none_says.ensures.says) c.say.ensures))
    (line_said c.args.self.now.explains (NoneEnded c.args.number) _ (λ size. refl))
