use Rattle.l4_lock.proofs.Canceling.{canceled_kept, cancels, refused_on}
use Rattle.l4_lock.proofs.locked.Locked.cancel.Goals as goal

pub returns-in_err-cancel-clause-err : goal.returns-in_err-cancel-clause-err
returns-in_err-cancel-clause-err c =
    refused_on c.self.inside.recorder c.cancel.new.recorder c.self.inside.accounts.items c.cancel.new.accounts.items c.args.self.now c.args.number c.args.cause c.from_residual.result _ c.self.view_is c.from_residual.ensures.1
    c.in_err-cancel.ensures.same c.in_err-cancel.ensures.err

pub invariant_of-self-2 : goal.invariant_of-self-2
invariant_of-self-2 c =
    canceled_kept c.self.inside.recorder c.cancel.new.recorder c.self.inside.accounts.items c.cancel.new.accounts.items c.args.number c.args.cause c.self.invariant c.in_ok-cancel.ensures.ok

pub returns-clause-ok : goal.returns-clause-ok
returns-clause-ok c =
    cancels c.self.inside.recorder c.cancel.new.recorder c.self.inside.accounts.items c.cancel.new.accounts.items c.args.number c.args.cause c.args.self.now c.self.view_is c.in_ok-cancel.ensures.ok
