use Rattle.std.proofs.Common.{ℕ, ◌-◌, ◌++◌, List, length, refl, ap, ◌∙◌, arith}
use Rattle.l4_naturals.proofs.Printing.{zero_text, text_none, text_more, text_all}
use Rattle.l4_naturals.proofs.digits.put_digits.Goals as goal

pub returns-then-count-eq0 : goal.returns-then-count-eq0
returns-then-count-eq0 c =
    c.in_ok-push.ensures.items ∙ ap (λ (l : List ℕ). c.args.out.now.items ++ l) (zero_text c.args.digits.now c.if-count-eq0.true)

pub loop-done-init : goal.loop-done-init
loop-done-init c = text_none c.args.digits.now c.args.out.now.items (length c.args.digits.now) refl

pub loop-done-preserved : goal.loop-done-preserved
loop-done-preserved c =
    text_more c.args.digits.now c.args.out.now.items c.loop-done.out.items c.push-in-loop-done.new.self.items (length c.args.digits.now) c.loop-done.done (length c.args.digits.now - c.loop-done.done - 1) c.digit_at.result
    refl c.loop-done-test.true (omega (arith, c.loop-done-test.true)) c.digit_at.ensures.is c.loop-done.invariant c.in_ok-push-2.ensures.items

pub returns : goal.returns
returns c =
    text_all c.args.digits.now c.args.out.now.items c.loop-done.out.items (length c.args.digits.now) c.loop-done.done c.requires refl c.if-count-eq0.false (omega (arith, c.loop-done-test.false)) c.loop-done.invariant
