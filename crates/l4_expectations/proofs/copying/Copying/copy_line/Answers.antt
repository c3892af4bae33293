use Rattle.std.proofs.Common.{sym, ◌∙◌}
use Rattle.l4_expectations.proofs.CopiedLines.{left_out}
use Rattle.l4_expectations.proofs.copying.Copying.copy_line.Goals as goal

pub returns-then-is_marked : goal.returns-then-is_marked
returns-then-is_marked c =
    left_out c.leave_out.result _ _ _ _ _ c.requires (sym c.is_silent.ensures ∙ c.if-is_silent.true) (sym c.is_marked.ensures ∙ c.if-is_marked.true) c.leave_out.ensures
