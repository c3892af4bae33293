use Rattle.std.proofs.Common.{◌∙◌, sym, ap, ℕ, List}
use Rattle.l4_forest.specs.Inside.Kept.{kept_at}
use Rattle.l4_forest.proofs.Presence.{no_root, root_is}
use Rattle.l4_forest.proofs.Forest.root.Goals as goal

pub returns-in_default : goal.returns-in_default
returns-in_default c = rw (← c.self.view_is)
    (no_root c.self.inside.links c.law_places.ensures c.law_trees.ensures c.self.inside.roots.items c.args.frame c.self.invariant.known (ap (λ (r : List ℕ). kept_at r c.args.frame) (sym c.deref.ensures.value) ∙ sym c.kept_key.ensures ∙ c.in_default.is))

pub returns : goal.returns
returns c = rw (← c.self.view_is)
    (root_is c.self.inside.links c.law_places.ensures c.law_trees.ensures c.self.inside.roots.items c.args.frame c.in-Some.key c.root_under.result c.self.invariant.known
    (ap (λ (r : List ℕ). kept_at r c.args.frame) (sym c.deref.ensures.value) ∙ sym c.kept_key.ensures ∙ c.in-Some.is) c.root_under.ensures)
