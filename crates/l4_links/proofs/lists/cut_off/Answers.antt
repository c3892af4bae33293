use Rattle.std.proofs.Common.{sym, ◌∙◌, refl}
use Rattle.l4_links.proofs.Neighbours.{cut_wanted, cut_unwanted}
use Rattle.l4_links.proofs.Writes.{slot_there}
use Rattle.l4_links.proofs.Naming.{indexed_same}
use Rattle.l4_links.proofs.lists.cut_off.Goals as goal

pub returns-then-is_wanted-clause-out : goal.returns-then-is_wanted-clause-out
returns-then-is_wanted-clause-out c = cut_wanted c.args.nodes.now.slots c.empty.new.nodes.slots c.args.key (sym c.is_wanted.ensures ∙ c.if-is_wanted.true) (slot_there c.args.nodes.now.slots c.args.key c.requires.there) c.empty.ensures.writes

pub returns-then-is_wanted-clause-indexed : goal.returns-then-is_wanted-clause-indexed
returns-then-is_wanted-clause-indexed c i = indexed_same c.args.nodes.now.slots c.empty.new.nodes.slots c.args.pages.now c.args.pages.now c.empty.ensures.writes.spots_same refl refl i

pub returns-clause-out : goal.returns-clause-out
returns-clause-out c = cut_unwanted c.args.nodes.now.slots c.remove.new.nodes.slots c.args.key (sym c.is_wanted.ensures ∙ c.if-is_wanted.false) c.remove.ensures.gone c.remove.ensures.others
