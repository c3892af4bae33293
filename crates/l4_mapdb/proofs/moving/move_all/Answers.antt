use Rattle.l4_mapdb.proofs.ItemWalk.{grants_next}
use Rattle.l4_mapdb.proofs.moving.move_all.Goals as goal

pub move_kind-requires-2 : goal.move_kind-requires-2
move_kind-requires-2 c = record {
  ready = (c.requires.ready.0, c.requires.ready.1, grants_next c.requires.ready.0 c.move_kind.new.links c.args.from c.args.to c.args.items.now (c.move_kind.ensures.moves c.requires.ready.0 c.requires.ready.1 c.requires.ready.2));
}

pub returns-clause-moves : goal.returns-clause-moves
returns-clause-moves c = λ start ready p.
    c.move_kind-2.ensures.moves start ready (grants_next start c.move_kind.new.links c.args.from c.args.to c.args.items.now (c.move_kind.ensures.moves start ready p))
