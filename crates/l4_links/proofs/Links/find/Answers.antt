use Rattle.std.proofs.Common.{◌≡◌, ◌↔◌, ℕ, Some, subst}
use Rattle.l4_links.specs.Entries.{Linked, IsAt}
use Rattle.l4_links.proofs.Naming.{find_is}
use Rattle.l4_links.proofs.Links.find.Goals as goal

pub returns : goal.returns
returns c =
    subst (λ (s : Linked). (key : ℕ) → (c.get.result ≡ Some key) ↔ IsAt s.entries c.args.place key) c.self.view_is
    (find_is c.self.inside.nodes.slots c.self.inside.pages c.args.place c.get.result c.self.invariant.indexed c.get.ensures.value)
