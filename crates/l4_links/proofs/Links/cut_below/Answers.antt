use Rattle.std.proofs.Common.{arith, sym, subst, ◌∙◌}
use Rattle.l4_links.specs.Entries.{Linked, CutsBelow, HaveRights}
use Rattle.l4_links.proofs.Kept.{sound_pruned}
use Rattle.l4_links.proofs.Views.{view_cuts, cuts_none}
use Rattle.l4_links.proofs.Stacking.{stack_pruned}
use Rattle.l4_links.proofs.Links.cut_below.Goals as goal

pub returns-in_default-clause-cuts : goal.returns-in_default-clause-cuts
returns-in_default-clause-cuts c =
    subst (λ (s : Linked). CutsBelow c.args.key s.entries s.entries) c.self.view_is
    (cuts_none c.self.inside.nodes.slots c.self.inside.first c.self.inside.stamp c.self.inside.walk c.args.key c.self.invariant.sound (sym c.node_of.ensures ∙ c.in_default.is))

pub invariant_of-self : goal.invariant_of-self
invariant_of-self c = record {
  sound = search (sound_pruned);
  indexed = c.cut_run.ensures.indexed c.self.invariant.indexed;
  stack =
      stack_pruned c.args.key c.self.inside.nodes.slots c.cut_run.new.nodes.slots c.self.inside.doomed
      (subst (λ (s : Linked). HaveRights s.entries) (sym c.self.view_is) c.requires.some) c.cut_run.ensures.prunes c.self.invariant.stack;
}

pub returns-clause-cuts : goal.returns-clause-cuts
returns-clause-cuts c = grind (arith, view_cuts)
