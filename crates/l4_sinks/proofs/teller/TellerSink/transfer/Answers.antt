use Rattle.std.proofs.Common.{refl}
use Rattle.l4_text.proofs.Telling.{tells_more}
use Rattle.l4_answers.specs.Reports.{Transferred}
use Rattle.l4_sinks.proofs.Reporting.{told_more, line_said}
use Rattle.l4_sinks.proofs.teller.TellerSink.transfer.Goals as goal

pub returns : goal.returns
returns g c = λ first told h.
    told_more g.W.Write.contents first _ _ told (Transferred c.args.sender c.args.receiver c.args.outcome) _ h refl refl refl refl
    (tells_more _ _ _ _ _ _ _ _ c.put_transfer.ensures c.say_transfer.ensures)
    (line_said c.args.self.now.explains (Transferred c.args.sender c.args.receiver c.args.outcome) _ (λ size. refl))
