use Rattle.std.proofs.Common.{◌+◌, List, [], length, inl, ap, subst, ◌∙◌}
use Rattle.std.specs.List.{All}
use Rattle.l4_merges.specs.declared.found.Found.{Found}
use Rattle.l4_shell.specs.ByLines.{state_of}
use Rattle.l4_orders.specs.Turns.{point}
use Rattle.l4_orders.specs.Witnesses.{IsWitness}
use Rattle.l4_orders.proofs.Filled.{err_on, full_first, full_from_boot, full_found}
use Rattle.l4_orders.proofs.Finding.{finds_orders}
use Rattle.l4_orders.proofs.Stepping.{first_step, made_start}
use Rattle.l4_orders.proofs.orders.watched_orders.Goals as goal

pub invariant_of-state : goal.invariant_of-state
invariant_of-state g c = first_step c.args.plan.now _ _ c.in-Ok.ensures (c.in_ok-line.ensures.number_is ∙ ap (λ l. 1 + length l) c.as_slice.ensures.value)

pub returns : goal.returns
returns g c =
    finds_orders c.args.frames c.args.size c.args.plan.now c.args.most (point c.args.plan.now (state_of c.execute_all.new.script) c.in-Ok.gone.items) c.explore-explored.result
    (made_start c.args.frames c.args.size c.args.plan.now c.in_ok-script.script.value (state_of c.deref_mut.result.now) (state_of c.execute_all.new.script) c.in_ok-line.line c.as_slice.result.now c.in-Ok.gone.items c.in_ok-script.ensures
    (ap state_of c.deref_mut.ensures.value) c.as_slice.ensures.value c.in_ok-line.ensures c.in-Ok.ensures)
    (subst (λ (l : List Found). All (IsWitness c.args.frames c.args.size c.args.plan.now) l) c.as_slice-2.ensures.value c.in_ok-replay_all.ensures)
    c.explore-explored.ensures.sound c.explore-explored.ensures.distinct c.explore-explored.ensures.orders c.explore-explored.ensures.complete c.explore-explored.ensures.graph
    (record { visits = c.explore-explored.ensures.visits; few = c.explore-explored.ensures.most; all = c.explore-explored.ensures.states; apart = c.explore-explored.ensures.apart; bound = c.explore-explored.ensures.bound })

pub returns-in_err-line : goal.returns-in_err-line
returns-in_err-line g c =
    err_on c.from_residual-in_err-line.result _ _ _ c.from_residual-in_err-line.ensures.1
    (λ full. inl (full_from_boot c.args.frames c.args.size c.args.plan.now [] c.in_ok-script.script.value (state_of c.deref_mut.result.now) c.in_ok-script.ensures (ap state_of c.deref_mut.ensures.value)
    (full_first c.args.plan.now _ _ [] c.as_slice.ensures.value (c.in_err-line.ensures full))))

pub returns-in_err-replay_all : goal.returns-in_err-replay_all
returns-in_err-replay_all g c =
    err_on c.from_residual-in_err-replay_all.result _ _ _ c.from_residual-in_err-replay_all.ensures.1
    (λ full. full_found c.args.frames c.args.size c.args.plan.now (point c.args.plan.now (state_of c.execute_all.new.script) c.in-Ok.gone.items) c.explore-explored.result.found.items c.as_slice-2.result.now
    (made_start c.args.frames c.args.size c.args.plan.now c.in_ok-script.script.value (state_of c.deref_mut.result.now) (state_of c.execute_all.new.script) c.in_ok-line.line c.as_slice.result.now c.in-Ok.gone.items c.in_ok-script.ensures
    (ap state_of c.deref_mut.ensures.value) c.as_slice.ensures.value c.in_ok-line.ensures c.in-Ok.ensures)
    c.explore-explored.ensures.sound c.as_slice-2.ensures.value (c.in_err-replay_all.ensures full))
