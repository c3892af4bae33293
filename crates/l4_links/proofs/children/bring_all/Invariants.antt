use Rattle.l4_links.proofs.Items.{HaveBrought}
use Rattle.l4_links.proofs.children.bring_all.Given as goal

-- the items before this one have brought what is due
abbrev pub invariant-loop-item : goal.invariant-loop-item
invariant-loop-item l = HaveBrought l.from l.to l.items l.item l.slots l.fn.sources.items l.sources.items l.fn.targets.items l.targets.items l.fn.nodes l.nodes
