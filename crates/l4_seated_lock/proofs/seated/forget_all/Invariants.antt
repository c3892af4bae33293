use Rattle.std.proofs.Common.{◌≡◌, ◌++◌, length, map, take, drop}
use Rattle.l4_lock.specs.Books.{forgotten_seat}
use Rattle.l4_seated_lock.proofs.seated.forget_all.Given as goal

abbrev pub invariant-loop-i : goal.invariant-loop-i
invariant-loop-i l =
    (length l.seats.items ≡ length l.initial.seats.items)
    × (l.seats.items ≡ map forgotten_seat (take l.i l.initial.seats.items) ++ drop l.i l.initial.seats.items)
