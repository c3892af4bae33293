use Rattle.std.proofs.Common.{subst}
use Rattle.l4_links.specs.Entries.{Linked, HavePlaces}
use Rattle.l4_links.proofs.Naming.{have_places}
use Rattle.l4_links.proofs.Links.law_places.Goals as goal

pub returns : goal.returns
returns c = subst (λ (s : Linked). HavePlaces s) c.self.view_is (have_places c.self.inside.nodes.slots c.self.inside.pages c.self.invariant.indexed)
