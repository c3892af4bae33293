use Rattle.std.proofs.Common.{◌≡◌, ◌++◌, length, map, take, drop}
use Rattle.l4_lock.specs.Books.{forgotten_book}
use Rattle.l4_lock.proofs.accounts.forget_all.Given as goal

abbrev pub invariant-loop-i : goal.invariant-loop-i
invariant-loop-i l =
    (length l.accounts.items ≡ length l.initial.accounts.items)
    × (l.accounts.items ≡ map forgotten_book (take l.i l.initial.accounts.items) ++ drop l.i l.initial.accounts.items)
