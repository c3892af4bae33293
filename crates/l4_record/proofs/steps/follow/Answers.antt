use Rattle.l4_ipc.proofs.Work.{fewer}
use Rattle.l4_ipc.specs.NextSteps.{step_of, answer_of}
use Rattle.l4_record.proofs.Going.{going_first, going_more, going_room, going_done}
use Rattle.l4_record.proofs.steps.follow.Goals as goal

pub loop-next-init : goal.loop-next-init
loop-next-init c = going_first _ _ _ _ _ _ c.law_consistent.ensures c.clear.ensures c.requires

pub push_next-requires : goal.push_next-requires
push_next-requires c = (going_room _ _ _ _ _ _ _ _ _ c.in-Some.step c.loop-next.invariant c.law_consistent.ensures c.in-Some.ensures.0 c.in-Some.ensures.1).0

pub push-requires : goal.push-requires
push-requires c = (going_room _ _ _ _ _ _ _ _ _ c.in-Some.step c.loop-next.invariant c.law_consistent.ensures c.in-Some.ensures.0 c.in-Some.ensures.1).1

pub loop-next-smaller : goal.loop-next-smaller
loop-next-smaller c = fewer _ _ (step_of c.in-Some.step) (answer_of c.in-Some.step) c.in-Some.ensures.0 c.in-Some.ensures.1

pub loop-next-preserved : goal.loop-next-preserved
loop-next-preserved c =
    going_more _ _ _ _ _ _ _ _ _ _ _ _ _ c.in-Some.step c.loop-next.invariant c.in-Some.ensures.0 c.in-Some.ensures.1 c.law_forest.ensures
    c.push_next.ensures.entries c.push.ensures c.push_next.ensures.room.0 c.push_next.ensures.room.1

pub returns-clause-went : goal.returns-clause-went
returns-clause-went c = going_done _ _ _ _ _ _ _ _ _ c.loop-next.invariant c.law_consistent.ensures c.in_default.ensures.1
