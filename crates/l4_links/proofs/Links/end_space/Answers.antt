use Rattle.std.proofs.Common.{subst, sym}
use Rattle.l4_links.specs.Entries.{Linked, NoKeyFrom}
use Rattle.l4_links.proofs.Naming.{indexed_without}
use Rattle.l4_links.proofs.Links.end_space.Goals as goal

pub invariant_of-self : goal.invariant_of-self
invariant_of-self c = record {
  sound = c.self.invariant.sound;
  indexed =
      indexed_without c.self.inside.nodes.slots c.self.inside.pages c.remove.new.self c.args.space c.self.invariant.indexed
      (subst (λ (s : Linked). NoKeyFrom s.entries c.args.space 0) (sym c.self.view_is) c.requires.empty) c.remove.ensures.pages c.remove.ensures.spaces;
  stack = c.self.invariant.stack;
}
