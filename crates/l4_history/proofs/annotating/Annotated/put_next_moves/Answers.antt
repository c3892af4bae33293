use Rattle.l4_history.proofs.AnnotatedLines.{next_moves}
use Rattle.l4_history.proofs.annotating.Annotated.put_next_moves.Goals as goal

pub returns-in-Some-clause-ok : goal.returns-in-Some-clause-ok
returns-in-Some-clause-ok g c = next_moves c.put_next_moves.result _ _ _ c.in-Some.follower _ _ _ _ _ c.history.ensures c.in-Some.is c.put_next_moves.ensures.ok
