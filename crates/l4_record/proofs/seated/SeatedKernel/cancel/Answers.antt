use Rattle.l4_record.proofs.Ending.{ok_cancels, err_cancels}
use Rattle.l4_record.proofs.seated.SeatedKernel.cancel.Goals as goal

pub returns-clause-ok : goal.returns-clause-ok
returns-clause-ok c =
    ok_cancels c.cancel.result c.args.self.now c.self.inside.recorder c.cancel.new.self c.self.inside.numbers.items c.self.inside.watch.seen c.args.number c.args.cause
    c.self.view_is c.cancel.ensures.ok

pub returns-clause-err : goal.returns-clause-err
returns-clause-err c =
    err_cancels c.cancel.result c.args.self.now c.self.inside.recorder c.cancel.new.self c.self.inside.numbers.items c.self.inside.watch.seen c.args.number c.args.cause
    c.self.view_is c.cancel.ensures.err
