use Rattle.std.proofs.Common.{subst}
use Rattle.l4_record.specs.Laws.{IsWholeRun}
use Rattle.l4_lock.specs.Locked.{Lock}
use Rattle.l4_lock.proofs.locked.Locked.law_history.Goals as goal

pub returns : goal.returns
returns c = subst (λ (l : Lock). IsWholeRun l.frames l.history l.kernel) c.self.view_is c.law_history.ensures
