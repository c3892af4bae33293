use Rattle.std.proofs.lemmas.Result.{IfOk-weaker}
use Rattle.l4_options.proofs.Lines.{more}
use Rattle.l4_options.proofs.commands.of_plan.Goals as goal

pub returns : goal.returns
returns c = IfOk-weaker c.arg.result _ _ (λ new adds. more _ _ _ new _ c.in_ok-of_region.ensures c.file_argument.ensures adds) c.arg.ensures
