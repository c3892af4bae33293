use Rattle.std.proofs.Common.{◌++◌, ap, ◌∙◌}
use Rattle.l4_text.proofs.Hundreds.{four_digits}
use Rattle.l4_text.proofs.output.Output.add_thousands.Goals as goal

pub returns-clause-value : goal.returns-clause-value
returns-clause-value c =
    c.add_array.ensures.value ∙ rw (c.two_digits.ensures.digits, c.two_digits-2.ensures.digits) (ap (λ ds. (c.args.self.now.0 ++ ds, c.args.self.now.1)) (four_digits c.args.number c.requires.long.0 c.requires.long.1))
