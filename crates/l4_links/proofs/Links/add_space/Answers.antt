use Rattle.l4_links.proofs.Naming.{indexed_begun}
use Rattle.l4_links.proofs.Links.add_space.Goals as goal

pub invariant_of-self : goal.invariant_of-self
invariant_of-self c = record {
  sound = c.self.invariant.sound;
  indexed = indexed_begun _ c.add.result c.self.inside.nodes.slots c.self.inside.pages c.add.new.self c.args.space c.add.ensures.pages c.add.ensures.spaces c.add.ensures.err c.self.invariant.indexed;
  stack = c.self.invariant.stack;
}
