use Rattle.std.proofs.Common.{eqb-true, sym, ◌∙◌}
use Rattle.l4_text.proofs.OneNumber.{no_bytes}
use Rattle.l4_text.proofs.tokens.next_token.Goals as goal

pub returns-then-is_empty : goal.returns-then-is_empty
returns-then-is_empty c = no_bytes c.args.line.now (eqb-true _ 0 (sym c.is_empty.ensures ∙ c.if-is_empty.true))
