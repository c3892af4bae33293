use Rattle.std.proofs.Common.{sym, ◌∙◌}
use Rattle.l4_links.proofs.Naming.{indexed_removed}
use Rattle.l4_links.proofs.lists.remove.Goals as goal

pub returns-clause-indexed : goal.returns-clause-indexed
returns-clause-indexed c i =
    indexed_removed c.args.nodes.now.slots c.remove.new.self.slots c.args.pages.now c.clear.new.self c.in-Some.place c.args.key (sym c.place_of.ensures ∙ c.in-Some.is)
    c.remove.ensures.gone c.remove.ensures.others c.clear.ensures.pages c.clear.ensures.spaces i
