use Rattle.std.proofs.Common.{◌≡◌, ℕ, ◌+◌, ◌<◌, ◌≤◌, None, arith, ap, subst, ◌∙◌, sym}
use Rattle.std.proofs.lemmas.List.{get_or_past}
use Rattle.l4_sigma0.proofs.Maps.{none_more, none_past}
use Rattle.l4_sigma0.proofs.owners.next_owned.Goals as goal

pub loop-frame-init : goal.loop-frame-init
loop-frame-init c = λ other from below. absurd (omega (arith, from, below))

pub returns-in-Some : goal.returns-in-Some
returns-in-Some c = record { within = c.loop-frame-test.true; owned = c.in-Some.is; «from» = c.loop-frame.auto.frame; least = c.loop-frame.invariant }

pub loop-frame-preserved : goal.loop-frame-preserved
loop-frame-preserved c = none_more c.args.owners.now c.args.from c.loop-frame.frame c.loop-frame.invariant c.in_default.is

pub returns : goal.returns
returns c = none_past c.args.owners.now c.args.from c.loop-frame.frame c.loop-frame.invariant c.loop-frame-test.false
