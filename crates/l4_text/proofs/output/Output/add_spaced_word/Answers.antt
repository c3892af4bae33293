use Rattle.std.proofs.Common.{[], ◌∷◌, sym, ap, ◌∙◌}
use mathlib.Core.List.{append_assoc}
use Rattle.l4_text.specs.Texts.{word_text}
use Rattle.l4_text.proofs.output.Output.add_spaced_word.Goals as goal

pub returns-clause-value : goal.returns-clause-value
returns-clause-value c =
    c.add_array.ensures.value
    ∙ rw (c.word_digits.ensures) (ap (λ t. (t, c.args.self.now.1)) (sym (append_assoc c.args.self.now.0 (32 ∷ []) (word_text c.args.word))))
