use Rattle.std.proofs.Common.{ℕ, List, Some, cond, ap, refl, ◌∙◌}
use Rattle.l4_text.proofs.Telling.{tells_is, tells_more}
use Rattle.l4_answers.specs.Reports.{UnreadLine}
use Rattle.l4_sinks.specs.Texts.{said}
use Rattle.l4_sinks.proofs.Reporting.{told_refusal, told_plainly, line_said}
use Rattle.l4_sinks.proofs.teller.TellerSink.unread_line.Goals as goal

pub returns-then-wants_reasons : goal.returns-then-wants_reasons
returns-then-wants_reasons g c = λ first told h.
    told_refusal g.W.Write.contents first _ _ told (UnreadLine c.args.size c.args.names.now c.args.line c.args.code.now c.args.bytes.now) _ h refl c.take_reason.ensures.explains c.take_reason.ensures.strict
    (c.take_reason.ensures.refused ∙ ap (λ (l : List ℕ). cond c.args.self.now.strict (Some l) c.args.self.now.refused) c.unread_reason.ensures)
    (tells_more _ _ _ _ _ _ _ _ c.put_refused_line.ensures (tells_is _ _ _ _ _ _ (ap (λ (l : List ℕ). said c.args.self.now.explains l) c.unread_reason.ensures) c.take_reason.ensures.told))
    (line_said c.args.self.now.explains (UnreadLine c.args.size c.args.names.now c.args.line c.args.code.now c.args.bytes.now) _ (λ size. refl))

pub returns-else-wants_reasons : goal.returns-else-wants_reasons
returns-else-wants_reasons g c = λ first told h.
    told_plainly g.W.Write.contents first _ _ told (UnreadLine c.args.size c.args.names.now c.args.line c.args.code.now c.args.bytes.now) h refl c.if-wants_reasons.ensures refl refl refl c.put_refused_line.ensures
