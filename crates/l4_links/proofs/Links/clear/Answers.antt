use Rattle.std.proofs.Common.{sym, subst, ◌∙◌}
use Rattle.l4_links.specs.Entries.{Linked, Clears, HaveRights}
use Rattle.l4_links.specs.Inside.Keeping.{entries_of}
use Rattle.l4_links.proofs.Kept.{sound_cleared}
use Rattle.l4_links.proofs.Views.{view_clears, clears_none}
use Rattle.l4_links.proofs.Stacking.{stack_cleared}
use Rattle.l4_links.proofs.Links.clear.Goals as goal

pub returns-in_default-clause-clears : goal.returns-in_default-clause-clears
returns-in_default-clause-clears c =
    subst (λ (s : Linked). Clears c.args.key s.entries s.entries) c.self.view_is
    (clears_none c.self.inside.nodes.slots c.self.inside.first c.self.inside.stamp c.self.inside.walk c.args.key c.self.invariant.sound (sym c.node_of.ensures ∙ c.in_default.is))

pub invariant_of-self : goal.invariant_of-self
invariant_of-self c = record {
  sound = search (sound_cleared);
  indexed = c.clear-self-inside.ensures.indexed c.self.invariant.indexed;
  stack =
      stack_cleared c.args.key c.self.inside.first c.clear-self-inside.result c.self.inside.nodes.slots c.clear-self-inside.new.nodes.slots c.self.inside.doomed
      (subst (λ (s : Linked). HaveRights s.entries) (sym c.self.view_is) c.requires.some) c.clear-self-inside.ensures.clears c.self.invariant.stack;
}

pub returns-clause-clears : goal.returns-clause-clears
returns-clause-clears c =
    subst (λ (s : Linked). Clears c.args.key s.entries (entries_of c.clear-self-inside.new.nodes.slots)) c.self.view_is
    (view_clears c.self.inside.nodes.slots c.clear-self-inside.new.nodes.slots c.self.inside.first c.clear-self-inside.result c.args.key c.clear-self-inside.ensures.clears)
