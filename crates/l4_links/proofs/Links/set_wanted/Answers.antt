use Rattle.std.proofs.Common.{subst}
use Rattle.l4_links.specs.Entries.{Linked, SetsWanted}
use Rattle.l4_links.specs.Inside.Keeping.{entries_of}
use Rattle.l4_links.proofs.Kept.{nodes_wanted, sound_nodes}
use Rattle.l4_links.proofs.Naming.{places_wanted, indexed_wanted}
use Rattle.l4_links.proofs.Views.{view_wanted}
use Rattle.l4_links.proofs.Stacking.{stack_nodes}
use Rattle.l4_links.proofs.Links.set_wanted.Goals as goal

pub invariant_of-self : goal.invariant_of-self
invariant_of-self c = search (sound_nodes, nodes_wanted, indexed_wanted, places_wanted, stack_nodes)

pub returns-clause-sets : goal.returns-clause-sets
returns-clause-sets c =
    subst (λ (s : Linked). SetsWanted c.args.key c.args.wanted s.entries (entries_of c.set_wanted.new.nodes.slots)) c.self.view_is
    (view_wanted c.self.inside.nodes.slots c.set_wanted.new.nodes.slots c.args.key c.args.wanted c.set_wanted.ensures)
