use Rattle.std.proofs.Common.{ℕ, List, ◌++◌, sym, ap, subst, ◌∙◌, None, Some}
use Rattle.std.specs.Global.{Vec}
use Rattle.l4_sinks.specs.Texts.{AreAnswerTexts}
use Rattle.l4_expectations.proofs.Answering.{teller_text}
use Rattle.l4_expectations.proofs.testing.answered.Goals as goal

pub returns-in-Ok : goal.returns-in-Ok
returns-in-Ok c =
    let t = teller_text (λ (text : Vec ℕ). Some text.items) _ _ _ _ _
    (record { writer_is = c.new-teller.ensures.writer; out_is = c.new-teller.ensures.out; explains_is = c.new-teller.ensures.explains; strict_is = c.new-teller.ensures.strict; refused_is = c.new-teller.ensures.refused })
    c.answer_line.ensures.2 c.in-Ok.ensures.ok in
    (c.answer_line.ensures.0, c.answer_line.ensures.1, subst (λ (x : List ℕ). AreAnswerTexts None c.answer_line.ensures.0 x) (sym (ap (λ (text : Vec ℕ). text.items) c.into_parts-text.ensures.writer ∙ t.2 ∙ ap (λ xs. xs ++ t.0) c.new.ensures.items)) t.1)
