use Rattle.l4_lock.proofs.Taken.{done_at_once, is_left}
use Rattle.l4_lock.proofs.shared.enter_kept.Goals as goal

pub returns-in-Err-clause-refuses : goal.returns-in-Err-clause-refuses
returns-in-Err-clause-refuses c = (c.args.locked.now, c.law_kept.ensures, c.in-Err.ensures.err.0)

pub returns-in-Done-clause-ok : goal.returns-in-Done-clause-ok
returns-in-Done-clause-ok c =
    done_at_once c.args.locked.now c.enter.new.self c.args.seat.now c.enter.new.seat c.args.call c.in-Ok.entered c.in-Done.reply c.in-Done.is c.law_kept.ensures c.law_kept-2.ensures c.in-Ok.ensures.ok.0 c.in-Ok.ensures.ok.1

pub returns-clause-ok : goal.returns-clause-ok
returns-clause-ok c =
    is_left c.args.locked.now c.enter.new.self c.args.seat.now c.enter.new.seat c.args.call c.in-Ok.entered _ c.in_default.not-Done c.copy_call.ensures c.count.ensures c.law_kept.ensures c.in-Ok.ensures.ok.0 c.in-Ok.ensures.ok.1
