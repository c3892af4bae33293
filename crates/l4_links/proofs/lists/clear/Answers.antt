use Rattle.std.proofs.Common.{refl, sym, ◌∙◌}
use Rattle.l4_links.proofs.Clearing.{top_left, cleared}
use Rattle.l4_links.proofs.Naming.{indexed_same}
use Rattle.l4_links.proofs.lists.clear.Goals as goal

pub unreachable-requires : goal.unreachable-requires
unreachable-requires c = top_left c.args.nodes.now.slots c.cut_run.new.nodes.slots c.args.top c.cut_run.ensures.prunes c.requires.there (sym c.node_of.ensures ∙ c.in_default.is)

pub returns-clause-clears : goal.returns-clause-clears
returns-clause-clears c =
    cleared c.args.nodes.now.slots c.cut_run.new.nodes.slots c.unlink.new.nodes.slots c.args.top c.in-Some.node c.args.first c.first_without.result c.cut_run.ensures.prunes (sym c.node_of.ensures ∙ c.in-Some.is)
    c.unlink.ensures.parts c.unlink.ensures.order c.first_without.ensures.begins c.first_without.ensures.stays

pub returns-clause-indexed : goal.returns-clause-indexed
returns-clause-indexed c i =
    indexed_same c.cut_run.new.nodes.slots c.unlink.new.nodes.slots c.cut_run.new.pages c.cut_run.new.pages c.unlink.ensures.parts.spots_same refl refl (c.cut_run.ensures.indexed i)
