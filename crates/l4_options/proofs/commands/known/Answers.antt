use Rattle.std.proofs.lemmas.Result.{IfOk-weaker}
use Rattle.l4_options.proofs.Lines.{below}
use Rattle.l4_options.proofs.commands.known.Goals as goal

pub returns : goal.returns
returns c =
    IfOk-weaker c.subcommand-2.result _ _
    (λ new adds. below _ _ _ _ new
    (below _ _ _ _ _ c.in_ok-with_words.ensures c.in_ok-of_files.ensures c.in_ok-subcommand.ensures)
    c.in_ok-of_orders.ensures adds) c.subcommand-2.ensures
