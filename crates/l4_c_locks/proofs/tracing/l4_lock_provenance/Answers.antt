use Rattle.std.proofs.Common.{Option, sym, subst}
use Rattle.l4_lock.specs.Locked.{Lock}
use Rattle.l4_c_queries.specs.Traced.{TracesPage, TellsProvenance}
use Rattle.l4_c_locks.proofs.tracing.l4_lock_provenance.Goals as goal

pub returns-clause-told : goal.returns-clause-told
returns-clause-told c =
    subst (λ (old : Option Lock). TellsProvenance old c.args.space c.args.page c.args.out.now c.trace-told.result c.trace-told.new.out) (sym c.in-Some.ensures.taken)
    (subst (λ (l : Lock). TracesPage l (record { space = c.args.space; page = c.args.page }) c.args.out.now c.trace-told.result c.trace-told.new.out) c.deref.ensures c.trace-told.ensures)
