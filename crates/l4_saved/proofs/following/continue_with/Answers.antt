use Rattle.std.proofs.Common.{sym, subst}
use Rattle.l4_saved.specs.Stopping.{Fails}
use Rattle.l4_saved.specs.declared.following.HistoryFault.{HistoryFault}
use Rattle.l4_saved.proofs.Told.{fails_as}
use Rattle.l4_saved.proofs.following.continue_with.Goals as goal

pub returns-in-Err-clause-err : goal.returns-in-Err-clause-err
returns-in-Err-clause-err c =
    subst (λ (f : HistoryFault). Fails c.args.number c.args.kernel.now c.args.last c.args.entry.now f) (sym c.history_fault.ensures)
    (fails_as c.args.number c.args.kernel.now c.args.last c.args.entry.now c.repeat_entry.new.kernel c.in-Err.fault c.in-Err.ensures.err)
