use Rattle.std.proofs.Common.{◌≡◌}
use Rattle.l4_forest.specs.Inside.Kept.{OwnsFirst}
use Rattle.l4_forest.proofs.booting.own_places.Given as goal

-- the frames below this one have their places
abbrev pub invariant-loop-frame : goal.invariant-loop-frame
invariant-loop-frame l = OwnsFirst l.frame l.links.entries l.roots.items × (l.links.spaces ≡ l.fn.links.spaces)
