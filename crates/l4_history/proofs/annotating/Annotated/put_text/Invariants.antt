use Rattle.std.proofs.Common.{◌≡◌, length}
use Rattle.l4_shell.specs.ByLines.{state_of}
use Rattle.l4_history.proofs.AnnotatedLines.{TextSoFar}
use Rattle.l4_history.proofs.annotating.Annotated.put_text.Given as goal

abbrev pub invariant-loop-rest : goal.invariant-loop-rest
invariant-loop-rest g l =
    TextSoFar l.initial.self.number l.line (state_of l.initial.self.run).session.history l.text l.rest l.initial.self.follower l.self.follower
    (g.W.Write.contents l.initial.writer) (g.W.Write.contents l.writer) l.initial.out l.out
    × (l.self ≡ record l.initial.self { follower = l.self.follower })

abbrev pub decreases-loop-rest : goal.decreases-loop-rest
decreases-loop-rest g l = length l.rest
