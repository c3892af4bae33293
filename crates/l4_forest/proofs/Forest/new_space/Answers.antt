use Rattle.l4_forest.proofs.Presence.{kept_begun}
use Rattle.l4_forest.proofs.Forest.new_space.Goals as goal

pub invariant_of-self : goal.invariant_of-self
invariant_of-self c = kept_begun c.self.inside c.add_space.new.self c.args.space c.add_space.result c.add_space.ensures.ok c.add_space.ensures.err c.self.invariant
