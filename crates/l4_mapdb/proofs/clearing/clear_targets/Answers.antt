use Rattle.std.proofs.Common.{refl, ◌∙◌, arith}
use Rattle.l4_mapdb.specs.Inside.Messages.{turn_in}
use Rattle.l4_mapdb.proofs.Gone.{so_far_first, so_far_more, so_far_all, cleared_rights, cleared_was, cleared_keeps}
use Rattle.l4_mapdb.proofs.clearing.clear_targets.Goals as goal

pub loop-used-init : goal.loop-used-init
loop-used-init c = rw c.new-moves.ensures (record {
  fits = omega arith;
  so_far = so_far_first c.args.links.now c.law_places.ensures c.law_trees.ensures c.args.from c.args.to c.args.items.now;
  spaces = refl;
})

pub clear_page-requires : goal.clear_page-requires
clear_page-requires c =
    cleared_rights c.args.links.now c.law_places.ensures c.law_trees.ensures c.args.from c.args.to c.args.items.now c.requires.wanted c.requires.stay c.loop-used.links.entries (turn_in c.loop-used.moves)
    c.loop-used.invariant.so_far c.requires.rights

pub returns : goal.returns
returns c = record {
  clears = so_far_all c.args.links.now c.law_places.ensures c.law_trees.ensures c.args.from c.args.to c.args.items.now c.requires.wanted c.requires.stay c.loop-used.links.entries (turn_in c.loop-used.moves)
      c.loop-used.invariant.so_far c.in_default.ensures.gives;
  spaces = c.loop-used.invariant.spaces;
}

pub loop-used-preserved : goal.loop-used-preserved
loop-used-preserved c =
    let used = cleared_was c.args.links.now c.law_places.ensures c.law_trees.ensures c.args.from c.args.to c.args.items.now c.requires.wanted c.requires.stay c.loop-used.links.entries (turn_in c.loop-used.moves)
    c.loop-used.invariant.so_far c.in-Some.used c.in-Some.ensures.gives.moved in
    let key = cleared_keeps c.args.links.now c.law_places.ensures c.law_trees.ensures c.args.from c.args.to c.args.items.now c.requires.wanted c.requires.stay c.loop-used.links.entries (turn_in c.loop-used.moves)
    c.loop-used.invariant.so_far c.in-Some.used used in
    let fits = c.in-Some.ensures.fits in
    rw c.in-Some.ensures.passes (record {
      fits = omega (arith, fits);
      so_far = so_far_more c.args.links.now c.law_places.ensures c.law_trees.ensures c.args.from c.args.to c.args.items.now c.requires.wanted c.requires.stay c.loop-used.links.entries c.clear_page.new.links.entries
          (turn_in c.loop-used.moves) key.0 c.in-Some.used c.loop-used.invariant.so_far c.in-Some.ensures.gives key.1 (c.clear_page.ensures.clears key.0 key.1);
      spaces = c.clear_page.ensures.spaces ∙ c.loop-used.invariant.spaces;
    })
