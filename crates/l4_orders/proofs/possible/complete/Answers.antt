use Rattle.std.proofs.Common.{List, ap, ◌∙◌}
use Rattle.l4_orders.specs.declared.plans.Block.{Block}
use Rattle.l4_orders.specs.Possible.{threads_of}
use Rattle.l4_orders.proofs.Completing.{completes, asked_in}
use Rattle.l4_orders.proofs.possible.complete.Goals as goal

pub returns : goal.returns
returns c =
    let threads = c.in-Ok.ensures ∙ ap (λ (bs : List Block). threads_of c.args.created.items bs) c.as_slice.ensures.value in
    completes c.check_rules.result c.args.size c.args.created.items _ c.args.plan c.ask_for_rules.new.plan
    (asked_in c.args.size c.args.created.items _ c.args.plan c.ask_for_rules.new.plan c.ask_for_rules.ensures.same.0 c.ask_for_rules.ensures.same.1.0 c.ask_for_rules.ensures.same.1.1
    c.in-Ok-ask_for_rules.ensures.ok (c.as_slice-2.ensures.value ∙ threads))
    (c.as_slice-3.ensures.value ∙ threads) c.check_rules.ensures
