use Rattle.l4_judging.proofs.Skipping.{reads_none, reads_line, reads_some, reads_all}
use Rattle.l4_judging.proofs.judging.read_rest.Goals as goal

pub loop-turn-init : goal.loop-turn-init
loop-turn-init g c = reads_none _

pub returns-in-Err : goal.returns-in-Err
returns-in-Err g c = reads_some _ _ _ _ _ _ _ c.loop-turn.invariant c.in-Err.ensures

pub returns-in_default : goal.returns-in_default
returns-in_default g c = reads_all _ _ _ _ _ _ _ c.loop-turn.invariant c.in-Ok.ensures c.in_default.is

pub loop-turn-preserved : goal.loop-turn-preserved
loop-turn-preserved g c = reads_line _ _ _ _ _ _ _ c.loop-turn.invariant c.in-Ok.ensures
