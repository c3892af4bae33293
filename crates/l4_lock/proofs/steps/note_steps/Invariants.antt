use Rattle.std.proofs.Common.{◌≡◌, ◌+◌, drop}
use Rattle.l4_lock.specs.Books.{numbers, IsOnce}
use Rattle.l4_lock.specs.Inside.Noting.{noted_steps}
use Rattle.l4_lock.proofs.steps.note_steps.Given as goal

abbrev pub invariant-loop-i : goal.invariant-loop-i
invariant-loop-i l =
    IsOnce (numbers l.accounts.items) × (noted_steps l.kernel (l.place + l.i) (drop l.i l.steps) l.accounts.items ≡ noted_steps l.kernel l.place l.steps l.initial.accounts.items)
