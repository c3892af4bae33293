use Rattle.std.proofs.Common.{arith, ℕ, List, [], sym, subst, ◌∙◌}
use Rattle.l4_links.specs.ListOf.{IsListOf}
use Rattle.l4_links.specs.Entries.{Linked, Descends}
use Rattle.l4_links.specs.Inside.Keeping.{entries_of}
use Rattle.l4_links.proofs.Leaves.{some_node}
use Rattle.l4_links.proofs.Views.{nothing_below}
use Rattle.l4_links.proofs.Listing.{view_list, list_of_none}
use Rattle.l4_links.proofs.Links.descendants.Goals as goal

pub returns-in_default : goal.returns-in_default
returns-in_default c =
    let none : IsListOf (λ (low : ℕ). Descends (entries_of c.self.inside.nodes.slots) low c.args.key) [] =
    list_of_none (λ (low : ℕ). Descends (entries_of c.self.inside.nodes.slots) low c.args.key)
    (λ low d. nothing_below c.self.inside.nodes.slots c.self.inside.first c.self.inside.stamp c.self.inside.walk c.args.key low c.self.invariant.sound (sym c.node_of.ensures ∙ c.in_default.is) d) in
    let seen = subst (λ (s : Linked). IsListOf (λ (low : ℕ). Descends s.entries low c.args.key) []) c.self.view_is none in
    subst (λ (items : List ℕ). IsListOf (λ (low : ℕ). Descends c.args.self.now.entries low c.args.key) items) (sym c.new.ensures.items) seen

pub keys_below-requires : goal.keys_below-requires
keys_below-requires c = grind (arith, some_node)

pub returns : goal.returns
returns c =
    subst (λ (s : Linked). IsListOf (λ (low : ℕ). Descends s.entries low c.args.key) c.in_ok-keys.keys.items) c.self.view_is
    (view_list c.self.inside.nodes.slots c.args.key c.in_ok-keys.keys.items c.in_ok-keys.ensures)
