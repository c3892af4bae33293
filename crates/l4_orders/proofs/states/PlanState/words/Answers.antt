use Rattle.std.proofs.Common.{ap, subst, rules, ◌∙◌}
use Rattle.l4_shell.specs.ByLines.{state_of}
use Rattle.l4_orders.specs.Words.{HasWords}
use Rattle.l4_orders.specs.Turns.{PlanPoint, point}
use Rattle.l4_orders.proofs.Stepping.{made_words}
use Rattle.l4_orders.proofs.states.PlanState.words.Goals as goal

pub returns : goal.returns
returns c =
    subst (λ (p : PlanPoint). HasWords p c.put_names.new.out.items) c.self.view_is
    (made_words (point c.self.inside.plan.now (state_of c.self.inside.script.value) c.self.inside.gone.items) c.kernel.result.now c.servers.result.now c.seats.result.now c.as_slice.result.now _ _ _ _ _ c.names.result.now
    c.as_slice.ensures.value
    (c.kernel.ensures ∙ ap (λ r. (state_of r).session.machine) c.deref.ensures)
    (c.servers.ensures ∙ ap (λ r. (state_of r).session.servers) c.deref-2.ensures)
    (c.seats.ensures ∙ ap (λ r. (state_of r).session.numbers) c.deref-3.ensures)
    (c.names.ensures ∙ ap (λ r. (state_of r).names) c.deref-4.ensures)
    (search rules) c.in_ok-put_kernel.ensures c.in_ok-put_servers.ensures c.in_ok-put_counted.ensures c.in_ok-put_names.ensures)
