use Rattle.std.proofs.Common.{[], ◌∷◌, ◌++◌, sym, ap, ◌∙◌}
use Rattle.std.proofs.lemmas.Fmt.{decimal_digit}
use mathlib.Core.List.{append_assoc}
use Rattle.l4_text.proofs.output.Output.add_spaced_number.Goals as goal

pub returns-then-number-lt10-clause-value : goal.returns-then-number-lt10-clause-value
returns-then-number-lt10-clause-value c =
    c.add_array.ensures.value
    ∙ ap (λ t. (t, c.args.self.now.1)) (sym (append_assoc c.args.self.now.0 (32 ∷ []) _) ∙ ap (λ t. c.args.self.now.0 ++ 32 ∷ [] ++ t) (sym (decimal_digit c.args.number c.if-number-lt10.true)))
