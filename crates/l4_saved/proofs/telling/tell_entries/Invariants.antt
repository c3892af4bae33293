use Rattle.std.proofs.Common.{ℕ, List, take}
use Rattle.l4_text.specs.Streams.{Tells}
use Rattle.l4_saved.specs.Inside.Replaying.{HasTold}
use Rattle.l4_saved.proofs.telling.tell_entries.Given as goal

abbrev pub invariant-loop-number : goal.invariant-loop-number
invariant-loop-number g l =
    (text : List ℕ) × HasTold l.answers l.fn.replay l.replay (take l.number l.entries.joined.now.entries) text
    × Tells (g.W.Write.contents l.fn.writer) (g.W.Write.contents l.writer) l.fn.out l.out text
