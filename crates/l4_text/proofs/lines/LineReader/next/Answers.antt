use Rattle.std.proofs.Common.{◌∙◌, ap}
use Rattle.l4_text.proofs.LineSteps.{lent_line, gives_after}
use Rattle.l4_text.proofs.lines.LineReader.next.Goals as goal

pub returns : goal.returns
returns g c = lent_line _ _ _ _ _ (c.take.ensures ∙ ap (λ p. p.0) c.self.view_is) c.in-Some.ensures

pub returns-in_default : goal.returns-in_default
returns-in_default g c = gives_after _ _ _ _ _ _ _ (c.take.ensures ∙ ap (λ p. p.0) c.self.view_is) c.next_line.ensures
