use Rattle.std.proofs.Common.{◌++◌, sym, ap, ◌∙◌}
use Rattle.std.proofs.lemmas.Fmt.{decimal_digit}
use Rattle.l4_text.proofs.output.Output.add_number.Goals as goal

pub returns-then-number-lt10-clause-value : goal.returns-then-number-lt10-clause-value
returns-then-number-lt10-clause-value c =
    c.push.ensures.value ∙ ap (λ t. (c.args.self.now.0 ++ t, c.args.self.now.1)) (sym (decimal_digit c.args.number c.if-number-lt10.true))
