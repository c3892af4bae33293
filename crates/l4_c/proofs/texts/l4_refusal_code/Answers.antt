use Rattle.std.proofs.Common.{◌<◌, ℕ, List, length, ap, sym, subst, ◌∙◌}
use Rattle.l4_c.proofs.Short.{is_short}
use Rattle.l4_c.proofs.texts.l4_refusal_code.Goals as goal

pub returns-clause-short : goal.returns-clause-short
returns-clause-short c = subst (λ (n : ℕ). n < 160) (sym (c.write_text.ensures.length ∙ ap (λ (t : List ℕ × List ℕ). length t.0) c.text_of.ensures)) (is_short c.args.refusal).0
