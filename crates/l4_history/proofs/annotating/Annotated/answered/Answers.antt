use Rattle.std.proofs.Common.{ℕ, ◌++◌, Some, ap, ◌∙◌}
use Rattle.std.specs.Global.{Vec}
use Rattle.l4_history.proofs.AnnotatedLines.{line_answered}
use Rattle.l4_history.proofs.annotating.Annotated.answered.Goals as goal

pub returns-in-Ok-clause-answered : goal.returns-in-Ok-clause-answered
returns-in-Ok-clause-answered c =
    line_answered (λ (text : Vec ℕ). Some text.items) _ _ _ _ _ _ _ _ _ _ _ _ _ _
    (record { writer_is = c.new-teller.ensures.writer; out_is = c.new-teller.ensures.out; explains_is = c.new-teller.ensures.explains; strict_is = c.new-teller.ensures.strict; refused_is = c.new-teller.ensures.refused })
    c.answer_line.ensures.1 c.answer_line.ensures.2 c.in-Ok.ensures.ok
    (λ written appends. ap (λ (text : Vec ℕ). text.items) c.into_parts.ensures.writer ∙ appends ∙ ap (λ xs. xs ++ written) c.new.ensures.items) c.into_parts.ensures.refused
