use Rattle.std.proofs.Common.{◌≡◌, take, drop, ◌++◌}
use Rattle.l4_threads.specs.Inside.Entries.{freed_in}
use Rattle.l4_threads.proofs.entries.free_all.Given as goal

-- the entries before i are freed, and the others are as they were
abbrev pub invariant-loop-i : goal.invariant-loop-i
invariant-loop-i l = l.entries ≡ freed_in (take l.i l.fn.entries) l.victim ++ drop l.i l.fn.entries
