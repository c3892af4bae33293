use Rattle.std.proofs.Common.{sym, subst}
use Rattle.l4_ipc.specs.SpacePages.{FitIn}
use Rattle.l4_ipc.proofs.Fitting.{fits_delivered}
use Rattle.l4_ipc.proofs.Moving.{moves_done, moves_failed}
use Rattle.l4_ipc.proofs.delivering.move_pages.Goals as goal

pub returns-in-Ok-clause-moves : goal.returns-in-Ok-clause-moves
returns-in-Ok-clause-moves c = λ size items window zip has. moves_done size c.args.forest.now c.args.from c.args.to items window c.args.moves.now zip has c.in-Ok.ensures.free c.map_all.new.self c.in-Ok.ensures.ok

pub returns-in-Err-clause-moves : goal.returns-in-Err-clause-moves
returns-in-Err-clause-moves c = λ size items window zip has. rw c.outcome_of.ensures (moves_failed size c.args.forest.now c.args.from c.args.to items window c.args.moves.now zip has c.in-Err.cause c.in-Err.ensures.cause c.map_all.new.self c.in-Err.ensures.err)

pub returns-in-Ok-clause-fits : goal.returns-in-Ok-clause-fits
returns-in-Ok-clause-fits c = λ size items window zip fits. fits_delivered size c.args.forest.now c.map_all.new.self c.args.from c.args.to items window c.args.moves.now zip fits c.in-Ok.ensures.ok

pub returns-in-Err-clause-fits : goal.returns-in-Err-clause-fits
returns-in-Err-clause-fits c = λ size items window zip fits. subst (FitIn size) (sym c.in-Err.ensures.err) fits
