use Rattle.std.proofs.Common.{◌≡◌, ℕ, List, take, false, None}
use Rattle.l4_saved.specs.Inside.Telling.{IsTold}
use Rattle.l4_saved.specs.Stopping.{seat_after}
use Rattle.l4_saved.proofs.pages.follow.Given as goal

abbrev pub invariant-loop-number : goal.invariant-loop-number
invariant-loop-number l =
    (text : List ℕ) × IsTold false l.fn.kernel None (take l.number l.entries.joined.now.entries) l.kernel text × (l.last ≡ seat_after None (take l.number l.entries.joined.now.entries))
