use Rattle.std.proofs.Common.{◌≡◌, ℕ, Result, Ok, IfOk, ◌∙◌, sym, subst}
use Rattle.l4_threads.specs.declared.ThreadFault.{ThreadFault}
use Rattle.l4_threads.specs.Control.{created}
use Rattle.l4_ipc.proofs.Starts.{still_there}
use Rattle.l4_ipc.proofs.acting.create.Goals as goal

pub controlled-requires : goal.controlled-requires
controlled-requires c =
    let same : c.create.result ≡ Ok c.in-Ok.space = c.create.ensures.test ∙ sym c.in-Ok.ensures.value in
    still_there c.args.threads.now c.create.new.self c.args.call.now.id c.in-Ok.space c.args.call.now.pager c.args.number c.requires
    (subst (λ (r : Result ℕ ThreadFault). IfOk r (λ own. c.create.new.self ≡ created c.args.threads.now c.args.call.now.id own c.args.call.now.pager)) same c.create.ensures.ok)
