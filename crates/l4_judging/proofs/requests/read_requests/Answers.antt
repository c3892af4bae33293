use Rattle.std.proofs.Common.{ap, sym}
use Rattle.l4_judging.proofs.RequestLines.{kept_none, kept_on, kept_unread, kept_all, kept_by, kept_full}
use Rattle.l4_judging.proofs.requests.read_requests.Goals as goal

pub loop-number-init : goal.loop-number-init
loop-number-init g c = kept_none _ _ _ (ap (λ p. p.0) c.new-lines.ensures) c.new-text.ensures.items

pub returns-in-Err : goal.returns-in-Err
returns-in-Err g c = kept_unread _ _ _ _ _ _ _ _ _ c.loop-number.invariant c.in-Err.ensures

pub returns-in_default : goal.returns-in_default
returns-in_default g c = kept_all _ _ _ _ _ _ _ _ _ _ c.loop-number.invariant c.in-Ok.ensures c.in_default.is c.new.ensures

pub returns-in-Err-check_ending : goal.returns-in-Err-check_ending
returns-in-Err-check_ending g c = kept_by _ _ _ _ _ _ _ _ _ c.in-Some.ending _ c.loop-number.invariant c.in-Ok.ensures c.in-Some.is c.in-Err-check_ending.ensures

pub returns-then-not-keep : goal.returns-then-not-keep
returns-then-not-keep g c = kept_full _ _ _ _ _ _ _ _ _ c.in-Some.ending c.loop-number.invariant c.in-Ok.ensures c.in-Some.is c.in-Ok-check_ending.ensures

pub loop-number-preserved : goal.loop-number-preserved
loop-number-preserved g c =
    kept_on _ _ _ _ _ _ _ _ _ _ _ c.in-Some.ending _ c.loop-number.invariant c.in-Ok.ensures c.in-Some.is c.in-Ok-check_ending.ensures c.line.ensures c.if-not-keep.false c.keep.ensures
