use Rattle.std.proofs.Common.{◌∙◌}
use Rattle.l4_shell.proofs.Lengthened.{line_longer}
use Rattle.l4_shell.proofs.by_lines.ScriptRun.answer_line.Goals as goal

pub invariant_of-self : goal.invariant_of-self
invariant_of-self g c = record { whole = (line_longer _ _ _ _ _ c.answer_line.ensures.1).kept_from ∙ c.args.self.now.whole }
