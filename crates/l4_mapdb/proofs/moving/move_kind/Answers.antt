use Rattle.std.proofs.Common.{refl, ◌∙◌}
use Rattle.l4_mapdb.proofs.ItemWalk.{all_of_kind}
use Rattle.l4_mapdb.proofs.moving.move_kind.Goals as goal

pub loop-item-init : goal.loop-item-init
loop-item-init c = (refl, λ start ready p. p)

pub move_item-requires : goal.move_item-requires
move_item-requires c = record {
  within = c.loop-item-test.true;
  ready = (c.requires.ready.0, c.requires.ready.1, c.loop-item.invariant.1 c.requires.ready.0 c.requires.ready.1 c.requires.ready.2);
}

pub loop-item-preserved : goal.loop-item-preserved
loop-item-preserved c = (c.move_item.ensures.spaces ∙ c.loop-item.invariant.0, λ start ready p. c.move_item.ensures.moves start ready (c.loop-item.invariant.1 start ready p))

pub returns-clause-moves : goal.returns-clause-moves
returns-clause-moves c = λ start ready p. all_of_kind start c.loop-item.links c.args.from c.args.to c.args.items.now c.args.grants c.loop-item.item c.loop-item-test.false (c.loop-item.invariant.1 start ready p)

pub returns-clause-spaces : goal.returns-clause-spaces
returns-clause-spaces c = c.loop-item.invariant.0
