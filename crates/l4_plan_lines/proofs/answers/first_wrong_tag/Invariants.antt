use Rattle.std.proofs.Common.{ℕ, ◌<◌}
use Rattle.l4_plan_lines.specs.Answers.{IsRightTag}
use Rattle.l4_plan_lines.proofs.answers.first_wrong_tag.Given as goal

abbrev pub invariant-loop-k : goal.invariant-loop-k
invariant-loop-k l = (j : ℕ) → j < l.k → IsRightTag l.claim.tags.items l.claim.items.items j
