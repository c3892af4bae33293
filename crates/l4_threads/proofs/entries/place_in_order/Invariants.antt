use Rattle.std.proofs.Common.{◌≡◌, take, drop, ◌++◌}
use Rattle.l4_threads.specs.Inside.Entries.{rising_with}
use Rattle.l4_threads.proofs.entries.place_in_order.Given as goal

-- the number goes into what is left of the list
abbrev pub invariant-loop-i : goal.invariant-loop-i
invariant-loop-i l = rising_with l.list l.number ≡ take l.i l.list ++ rising_with (drop l.i l.list) l.number
