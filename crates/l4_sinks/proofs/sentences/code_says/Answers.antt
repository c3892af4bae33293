use Rattle.std.proofs.Common.{ℕ, List, ◌≤◌, length, sym, ap, subst}
use Rattle.l4_sinks.proofs.Lengths.{texts_short}
use Rattle.l4_sinks.proofs.sentences.code_says.Goals as goal

pub returns-clause-short : goal.returns-clause-short
returns-clause-short c =
    subst (λ (n : ℕ). n ≤ 160) (sym (ap (λ (p : List ℕ × List ℕ). length p.1) c.text_of.ensures)) (texts_short c.number_of.result)
