use Rattle.std.proofs.Common.{◌∙◌, length, true}
use Rattle.l4_mapdb.specs.Inside.Placing.{IsDone}
use Rattle.l4_mapdb.proofs.AllDone.{all_done}
use Rattle.l4_mapdb.proofs.Finished.{clean_in_the_end, roots_in_the_end, delivers_in_the_end}
use Rattle.l4_mapdb.proofs.delivering.carry_out.Goals as goal

pub returns-clause-delivers : goal.returns-clause-delivers
returns-clause-delivers c = λ start ready begun.
    delivers_in_the_end start c.move_all.new.links c.args.from c.args.to c.args.items.now ready (IsDone start c.args.from c.args.to c.args.items.now true (length c.args.items.now) 0) (c.move_all.ensures.moves start ready begun)
    c.law_places.ensures c.law_trees.ensures (all_done start c.args.from c.args.to c.args.items.now) c.unmark.new.links.entries c.bury.new.self c.unmark.ensures.tidies c.bury.ensures.buries
    c.law_places-2.ensures c.law_trees-2.ensures (c.bury.ensures.spaces ∙ c.unmark.ensures.spaces)

pub returns-clause-clean : goal.returns-clause-clean
returns-clause-clean c =
    let start = c.requires.ready.0 in
    clean_in_the_end start c.move_all.new.links c.args.from c.args.to c.args.items.now c.requires.ready.1 (IsDone start c.args.from c.args.to c.args.items.now true (length c.args.items.now) 0)
    (c.move_all.ensures.moves start c.requires.ready.1 c.requires.ready.2) c.law_places.ensures c.law_trees.ensures (all_done start c.args.from c.args.to c.args.items.now)
    c.unmark.new.links.entries c.bury.new.self c.unmark.ensures.tidies c.bury.ensures.buries

pub returns-clause-roots : goal.returns-clause-roots
returns-clause-roots c = λ start ready begun.
    roots_in_the_end start c.move_all.new.links c.args.from c.args.to c.args.items.now ready (IsDone start c.args.from c.args.to c.args.items.now true (length c.args.items.now) 0) (c.move_all.ensures.moves start ready begun)
    c.law_places.ensures c.law_trees.ensures (all_done start c.args.from c.args.to c.args.items.now) c.unmark.new.links.entries c.bury.new.self c.unmark.ensures.tidies c.bury.ensures.buries
