use Rattle.std.proofs.Common.{arith, sym, subst}
use Rattle.l4_links.specs.Entries.{Linked, IsBlank}
use Rattle.l4_links.proofs.Seen.{blank_node}
use Rattle.l4_links.proofs.Kept.{sound_nodes}
use Rattle.l4_links.proofs.Views.{view_gone, view_others}
use Rattle.l4_links.proofs.Stacking.{stack_nodes}
use Rattle.l4_links.proofs.Neighbours.{nodes_freed}
use Rattle.l4_links.proofs.Links.take_blank.Goals as goal

pub invariant_of-self : goal.invariant_of-self
invariant_of-self c = record {
  sound =
      sound_nodes c.self.inside.nodes.slots c.remove.new.nodes.slots
      (nodes_freed c.self.inside.nodes.slots c.remove.new.nodes.slots c.args.key (blank_node c.self.inside.nodes.slots c.args.key (subst (λ (s : Linked). IsBlank s.entries c.args.key) (sym c.self.view_is) c.requires.blank))
      c.remove.ensures.gone c.remove.ensures.others)
      c.self.inside.first c.self.inside.stamp c.self.inside.walk c.self.invariant.sound;
  indexed = c.remove.ensures.indexed c.self.invariant.indexed;
  stack =
      stack_nodes c.self.inside.nodes.slots c.remove.new.nodes.slots c.self.inside.doomed
      (nodes_freed c.self.inside.nodes.slots c.remove.new.nodes.slots c.args.key (blank_node c.self.inside.nodes.slots c.args.key (subst (λ (s : Linked). IsBlank s.entries c.args.key) (sym c.self.view_is) c.requires.blank))
      c.remove.ensures.gone c.remove.ensures.others)
      c.self.invariant.stack;
}

pub returns-clause-gone : goal.returns-clause-gone
returns-clause-gone c = view_gone c.remove.new.nodes.slots c.args.key c.remove.ensures.gone

pub returns-clause-others : goal.returns-clause-others
returns-clause-others c = grind (arith, view_others)
