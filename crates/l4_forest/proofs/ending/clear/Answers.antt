use Rattle.l4_forest.proofs.Taken.{taken_empty}
use Rattle.l4_forest.proofs.ending.clear.Goals as goal

pub returns-clause-empty : goal.returns-clause-empty
returns-clause-empty c = taken_empty c.args.space c.args.links.now c.take_pages.new.links.entries c.law_places.ensures c.take_pages.ensures.takes
