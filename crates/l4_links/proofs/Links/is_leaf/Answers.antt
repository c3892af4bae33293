use Rattle.std.proofs.Common.{ℕ, subst}
use Rattle.l4_links.specs.Entries.{Linked, IsStanding, Descends}
use Rattle.l4_links.proofs.Leaves.{view_leaf, view_no_leaf}
use Rattle.l4_links.proofs.Links.is_leaf.Goals as goal

pub returns-clause-yes : goal.returns-clause-yes
returns-clause-yes c is =
    subst (λ (s : Linked). IsStanding s.entries c.args.key × ((low : ℕ) → ¬ (Descends s.entries low c.args.key))) c.self.view_is (view_leaf c.self.inside.nodes.slots c.args.key (c.is_leaf.ensures.yes is))

pub returns-clause-no : goal.returns-clause-no
returns-clause-no c is =
    subst (λ (s : Linked). IsStanding s.entries c.args.key → (low : ℕ) × Descends s.entries low c.args.key) c.self.view_is (view_no_leaf c.self.inside.nodes.slots c.args.key (c.is_leaf.ensures.no is))
