use Rattle.std.proofs.Common.{subst}
use Rattle.l4_links.specs.Entries.{Linked, AreTrees}
use Rattle.l4_links.proofs.Laws.{are_trees}
use Rattle.l4_links.proofs.Links.law_trees.Goals as goal

pub returns : goal.returns
returns c = subst (λ (s : Linked). AreTrees s.entries) c.self.view_is (are_trees c.self.inside.nodes.slots c.self.inside.first c.self.inside.stamp c.self.inside.walk c.self.invariant.sound)
