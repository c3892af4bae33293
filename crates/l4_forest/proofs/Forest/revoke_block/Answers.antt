use Rattle.std.proofs.Common.{arith}
use Rattle.l4_forest.specs.Losing.{RevokesBlock}
use Rattle.l4_mapdb.specs.View.{mappings_of}
use Rattle.l4_forest.proofs.Cut.{revokes_pages, forest_block, kept_cut}
use Rattle.l4_forest.proofs.Forest.revoke_block.Goals as goal

revokes : (c : goal.After-revoke_pages) → RevokesBlock c.args.space c.args.block.first c.args.block.log c.args.rights c.args.with_self (mappings_of c.self.inside.links) (mappings_of c.revoke_pages.new.links)
revokes c =
    revokes_pages c.self.inside.links c.law_places.ensures c.law_trees.ensures c.revoke_pages.new.links c.revoke_pages.ensures.places c.revoke_pages.ensures.trees c.args.rights c.args.with_self
    c.self.invariant.clean c.revoke_pages.ensures.spaces c.args.space c.args.block.first c.args.block.log _ (omega arith) c.revoke_pages.ensures.cuts

pub invariant_of-self : goal.invariant_of-self
invariant_of-self c =
    kept_cut c.self.inside c.revoke_pages.new.links _ c.args.rights c.self.invariant c.revoke_pages.ensures.cuts
    (forest_block c.self.inside.links c.law_places.ensures c.law_trees.ensures c.args.space c.args.block.first c.args.block.log c.args.rights c.args.with_self (mappings_of c.revoke_pages.new.links)
    c.self.invariant.forest (revokes c))

pub returns : goal.returns
returns c = rw (← c.self.view_is) (revokes c)
