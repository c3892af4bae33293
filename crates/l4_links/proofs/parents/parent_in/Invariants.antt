use Rattle.std.proofs.Common.{◌≤◌, ◌<◌, ◌*◌, ℕ}
use Rattle.l4_spaces.specs.Tables.{row_block}
use Rattle.l4_links.specs.Inside.Parents.{IsParentKey}
use Rattle.l4_links.proofs.parents.parent_in.Given as goal

abbrev pub invariant-loop-block : goal.invariant-loop-block
invariant-loop-block l = (low key : ℕ) → l.from ≤ low → low < l.end → low < l.block * row_block → ¬ (IsParentKey l.nodes.slots l.row low key)
