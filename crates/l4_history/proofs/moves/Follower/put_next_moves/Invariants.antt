use Rattle.std.proofs.Common.{◌≡◌}
use Rattle.l4_history.proofs.NextTransfers.{Ahead}
use Rattle.l4_history.proofs.moves.Follower.put_next_moves.Given as goal

abbrev pub invariant-loop-place : goal.invariant-loop-place
invariant-loop-place g l =
    Ahead l.initial.self.kernel l.history.entries l.initial.self.next l.place l.self.kernel × (l.self.next ≡ l.place)
    × (g.W.Write.contents l.writer ≡ g.W.Write.contents l.initial.writer) × (l.out ≡ l.initial.out)
