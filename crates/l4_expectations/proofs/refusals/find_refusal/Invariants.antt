use Rattle.std.proofs.Common.{◌≡◌, length}
use Rattle.l4_expectations.specs.Expectations.{refusal_in}
use Rattle.l4_expectations.proofs.refusals.find_refusal.Given as goal

abbrev pub invariant-loop-left : goal.invariant-loop-left
invariant-loop-left l = refusal_in l.initial.left ≡ refusal_in l.left

abbrev pub decreases-loop-left : goal.decreases-loop-left
decreases-loop-left l = length l.left
