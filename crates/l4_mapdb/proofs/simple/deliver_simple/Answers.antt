use Rattle.l4_mapdb.proofs.Brought.{brought_delivered}
use Rattle.l4_mapdb.proofs.simple.deliver_simple.Goals as goal

pub returns-clause-done : goal.returns-clause-done
returns-clause-done c = λ done. let m = c.move_items-done.ensures.moves done in
    brought_delivered c.args.links.now c.law_places.ensures c.law_trees.ensures c.args.from c.args.to c.args.items.now c.requires.clean c.if-from-to.false (c.are_apart.ensures c.if-not-are_apart.false)
    c.move_items-done.new.self c.move_items-done.ensures.spaces m.0 m.1 m.2 c.requires.there c.law_places-2.ensures
