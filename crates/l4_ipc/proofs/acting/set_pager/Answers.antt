use Rattle.l4_ipc.proofs.Starts.{still_with_pager}
use Rattle.l4_ipc.proofs.acting.set_pager.Goals as goal

pub controlled-requires : goal.controlled-requires
controlled-requires c = still_with_pager c.args.threads.now c.set_pager.new.self c.in_default.field-0 c.args.call.now.pager c.args.number c.requires c.in_default.ensures.ok
