use Rattle.std.proofs.Common.{sym, eqb-true}
use Rattle.l4_text.proofs.OneNumber.{no_bytes}
use Rattle.l4_text.proofs.first_numbers.next_number.Goals as goal

pub returns-then-is_empty : goal.returns-then-is_empty
returns-then-is_empty c = no_bytes c.args.line.now (eqb-true _ 0 (sym c.if-is_empty.ensures))
