use Rattle.std.proofs.Common.{ℕ, ◌<◌}
use Rattle.l4_mapdb.specs.Inside.Messages.{IsMoved}
use Rattle.l4_mapdb.specs.Inside.Tangles.{ClashesWith}
use Rattle.l4_mapdb.proofs.tangles.clashes.Given as goal

-- the move clashes with none of the items before this one
abbrev pub invariant-loop-other : goal.invariant-loop-other
invariant-loop-other l = (item : ℕ) → item < l.other → ¬ (ClashesWith (IsMoved l.links.entries l.from l.to l.items) l.used item)
