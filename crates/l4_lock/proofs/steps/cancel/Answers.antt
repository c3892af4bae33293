use Rattle.std.proofs.Common.{◌∙◌, [], ◌∷◌, map, ap}
use Rattle.l4_ipc.specs.Machine.{Machine}
use Rattle.l4_lock.specs.Inside.Noting.{noted}
use Rattle.l4_lock.proofs.Canceling.{canceled}
use Rattle.l4_lock.proofs.steps.cancel.Goals as goal

pub returns-clause-ok : goal.returns-clause-ok
returns-clause-ok c =
    canceled c.args.recorder.now c.cancel.new.self c.args.number c.args.cause c.count-place.result c.args.accounts.now.items c.note_one.new.accounts.items c.in_default.ensures.ok c.law_kept.ensures c.count-place.ensures
    (c.note_one.ensures ∙ ap (λ (m : Machine). map (noted m (c.args.number ∷ []) c.count-place.result) c.args.accounts.now.items) c.kernel.ensures)

pub returns-in-Err-clause-err : goal.returns-in-Err-clause-err
returns-in-Err-clause-err c = (c.in-Err.refusal, c.refusal_of.ensures, c.in-Err.ensures.err.0)
