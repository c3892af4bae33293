use Rattle.std.proofs.Common.{sym, ap, ◌∙◌}
use Rattle.l4_threads.specs.Threads.{end_call}
use Rattle.l4_phases.proofs.waits.end_wait.Goals as goal

pub returns : goal.returns
returns c = (
  record { state = c.in-Some.state.now; at = sym c.in-Some.ensures; waiting = c.in-Some-wait_ending.ensures.0 },
  c.end.ensures ∙ ap (end_call c.args.threads.now c.args.number) c.in-Some-wait_ending.ensures.1,
)
