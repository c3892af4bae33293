use Rattle.std.proofs.Common.{◌≡◌, refl, sym, ap, ◌∙◌, option_and_then}
use Rattle.l4_links.specs.declared.Standing.{Standing}
use Rattle.l4_mapdb.proofs.Caps.{capped_tree}
use Rattle.l4_mapdb.proofs.unmarking.cut_key.Goals as goal

pub returns-clause-capped : goal.returns-clause-capped
returns-clause-capped c = capped_tree c.args.links.now.entries c.cap_tree.new.self.entries c.args.key c.in-Some-granted.granted c.cap_tree.ensures.caps c.law_trees.ensures.decided (λ k. k ≡ c.args.key) refl
    (ap (option_and_then (λ (t : Standing). t.granted)) (sym c.standing.ensures ∙ c.in-Some.is) ∙ c.in-Some-granted.is) (λ k d. d)
