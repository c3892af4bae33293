use Rattle.std.proofs.Common.{subst, sym}
use Rattle.l4_lock.specs.Locked.{RefusesBoot}
use Rattle.l4_lock.proofs.Openings.{boot_refused}
use Rattle.l4_lock.proofs.Taking.{begins_kept}
use Rattle.l4_lock.proofs.locked.Locked.new.Goals as goal

pub invariant_of-locked : goal.invariant_of-locked
invariant_of-locked c = begins_kept c.in-Ok.parts.0 c.new-2.result.items c.law_kept.ensures c.in-Ok.ensures.3 c.new-2.ensures

pub returns-in-Err : goal.returns-in-Err
returns-in-Err c = subst (RefusesBoot c.args.frames) (sym c.refusal_of.ensures) (boot_refused c.args.frames c.in-Err.refusal c.in-Err.ensures)
