use Rattle.std.proofs.Common.{sym, ◌∙◌}
use Rattle.itoa.proofs.Decimal.{decimal_two}
use Rattle.l4_text.proofs.DecimalTable.{digits_at, decimal_bytes}
use Rattle.l4_text.proofs.texts.two_digits.Goals as goal

pub returns-clause-digits : goal.returns-clause-digits
returns-clause-digits c = c.to_le_bytes.ensures ∙ decimal_bytes c.args.number _ c.requires (digits_at _ c.args.number c.requires)

pub returns-clause-decimal : goal.returns-clause-decimal
returns-clause-decimal c = λ two. c.to_le_bytes.ensures ∙ decimal_bytes c.args.number _ c.requires (digits_at _ c.args.number c.requires) ∙ sym (decimal_two c.args.number two c.requires)
