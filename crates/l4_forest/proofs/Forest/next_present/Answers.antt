use Rattle.l4_forest.proofs.Presence.{next_of}
use Rattle.l4_forest.proofs.Forest.next_present.Goals as goal

pub returns : goal.returns
returns c = rw (← c.self.view_is) (next_of c.self.inside.links c.law_places.ensures c.self.invariant.clean c.args.space c.args.page c.next_key.result c.next_key.ensures)
