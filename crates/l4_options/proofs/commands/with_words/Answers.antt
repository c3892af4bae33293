use Rattle.std.proofs.lemmas.Result.{IfOk-weaker}
use Rattle.l4_options.proofs.Lines.{below}
use Rattle.l4_options.proofs.commands.with_words.Goals as goal

pub returns : goal.returns
returns c =
    IfOk-weaker c.subcommand-4.result _ _
    (λ new adds. below _ _ _ _ new
    (below _ _ _ _ _
    (below _ _ _ _ _
    (below _ _ _ _ _ c.in_ok-with_scripts.ensures c.in_ok-of_region.ensures c.in_ok-subcommand.ensures)
    c.in_ok-of_plan.ensures c.in_ok-subcommand-2.ensures)
    c.in_ok-of_words.ensures c.in_ok-subcommand-3.ensures)
    c.in_ok-of_tokens.ensures adds) c.subcommand-4.ensures
