use Rattle.std.proofs.Common.{ap}
use Rattle.std.proofs.lemmas.Result.{MatchResult-weaker}
use Rattle.l4_shell.specs.ByLines.{state_of}
use Rattle.l4_orders.proofs.Filled.{full_from_boot}
use Rattle.l4_orders.proofs.Stepping.{run_from_boot}
use Rattle.l4_orders.proofs.replaying.replay.Goals as goal

pub returns : goal.returns
returns c =
    MatchResult-weaker c.replayed.result c.replayed.ensures
    (λ text run. run_from_boot c.args.frames c.args.size c.args.plan.now c.in_ok-script.script.value (state_of c.deref_mut.result.now) c.args.order.now text.items c.in_ok-script.ensures (ap state_of c.deref_mut.ensures.value) run)
    (λ why fills full. full_from_boot c.args.frames c.args.size c.args.plan.now c.args.order.now c.in_ok-script.script.value (state_of c.deref_mut.result.now) c.in_ok-script.ensures (ap state_of c.deref_mut.ensures.value) (fills full))
