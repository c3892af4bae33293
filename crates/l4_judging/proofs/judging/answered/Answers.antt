use Rattle.std.proofs.Common.{◌≡◌, ℕ, List, ◌++◌, ◌∙◌, ap, sym, subst}
use Rattle.l4_text.proofs.Telling.{all_out}
use Rattle.l4_step_lines.specs.Lists.{Answers}
use Rattle.l4_judging.proofs.judging.answered.Goals as goal

pub returns-in-Ok-clause-value : goal.returns-in-Ok-clause-value
returns-in-Ok-clause-value c =
    let is : c.finish.new.writer.items ≡ c.new-text.result.items ++ c.answer.ensures.0 = all_out _ _ _ _ _ _ c.new-out.ensures c.answer.ensures.2 c.in-Ok.ensures.ok in
    subst (λ (t : List ℕ). Answers c.args.kernel.now c.args.request t c.answer.new.kernel) (sym (is ∙ ap (λ xs. xs ++ c.answer.ensures.0) c.new-text.ensures.items)) c.answer.ensures.1
