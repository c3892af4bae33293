use Rattle.std.proofs.Common.{ap, ◌∙◌}
use Rattle.l4_record.specs.Seated.{Seated}
use Rattle.l4_shell.proofs.by_lines.ScriptRun.copy.Goals as goal

pub invariant_of-result : goal.invariant_of-result
invariant_of-result c = record { whole = ap (λ (k : Seated). k.kept_from) c.in-Ok.ensures.0 ∙ c.args.self.now.whole }
