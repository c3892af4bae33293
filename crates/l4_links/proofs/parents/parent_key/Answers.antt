use Rattle.std.proofs.Common.{◌≡◌, ℕ, Option, Some, None, sym, ◌∙◌, subst}
use Rattle.l4_nodes.specs.Slots.{node_at}
use Rattle.l4_links.proofs.ParentWalk.{no_node}
use Rattle.l4_links.proofs.parents.parent_key.Goals as goal

pub returns-in_default : goal.returns-in_default
returns-in_default c here is parent =
    let z : ◌≡◌ {A = Option ℕ} (Some c.in_ok-key.key) (Some here) = sym c.in_ok-key.was ∙ is in
    let same : c.in_ok-key.key ≡ here = cc in
    let none : node_at c.args.nodes.now.slots here ≡ None = subst (λ (k : ℕ). node_at c.args.nodes.now.slots k ≡ None) same (sym c.node_of.ensures ∙ c.in_default.is) in
    no_node c.args.nodes.now.slots c.requires.forest.0 here c.requires.forest.1 none parent.0 parent.1
