use Rattle.std.proofs.Common.{◌≡◌, ◌+◌, ◌≤◌, length}
use Rattle.l4_judging.specs.Watching.{said_lines, differs_from}
use Rattle.l4_judging.proofs.watching.first_difference.Given as goal

abbrev pub invariant-loop-place : goal.invariant-loop-place
invariant-loop-place l =
    (l.place + length l.rest ≤ length l.answer)
    × (differs_from 0 l.initial.due (said_lines l.answer) ≡ differs_from l.place l.due (said_lines l.rest))
