use Rattle.std.proofs.Common.{◌≡◌}
use Rattle.l4_lock.proofs.shared.KernelLock.wait_for.Given as goal

-- the seat is unchanged
abbrev pub invariant-loop : goal.invariant-loop
invariant-loop g l =
    (goal.iterator-loop g).can_next l.iterator' × (goal.iterator-loop g).is_finite l.iterator' × (l.seat ≡ l.initial.seat)
