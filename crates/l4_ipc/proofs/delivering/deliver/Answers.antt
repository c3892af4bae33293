use Rattle.std.proofs.Common.{List, length, sym, subst}
use Rattle.std.proofs.lemmas.Bool.{false≢true}
use Rattle.l4_msg.specs.declared.items.Item.{Item}
use Rattle.l4_ipc.specs.declared.steps.Outcome.TheVariants.{Done}
use Rattle.l4_ipc.specs.Moving.{Moves}
use Rattle.l4_threads.proofs.TableLemmas.{same_of}
use Rattle.l4_ipc.proofs.Moving.{one_listed, none_listed, nothing_moves}
use Rattle.l4_ipc.proofs.delivering.deliver.Goals as goal

pub returns-then-is_empty-clause-moves : goal.returns-then-is_empty-clause-moves
returns-then-is_empty-clause-moves c =
    subst (λ (items : List Item). Moves c.args.size c.args.forest.now c.args.from c.args.to items c.args.window.now Done c.args.forest.now) (sym (none_listed c.args.items.now (same_of (length c.args.items.now) 0 (sym c.if-is_empty.ensures))))
    (nothing_moves c.args.size c.args.forest.now c.args.from c.args.to c.args.window.now c.law_forest.ensures)

pub returns-then-items-eq1-clause-moves : goal.returns-then-items-eq1-clause-moves
returns-then-items-eq1-clause-moves c = c.move_pages.ensures.moves c.args.size c.args.items.now c.args.window.now
    (one_listed c.args.size c.args.window.now c.args.items.now c.index-items-0.result c.item_move.result c.if-items-eq1.true c.index-items-0.is c.item_move.ensures)
    (λ lacks. false≢true (c.if-lacks_window.ensures.1 lacks))

pub returns-clause-moves : goal.returns-clause-moves
returns-clause-moves c = c.move_listed.ensures.moves (λ lacks. false≢true (c.if-lacks_window.ensures.1 lacks))

pub returns-then-items-eq1-clause-fits : goal.returns-then-items-eq1-clause-fits
returns-then-items-eq1-clause-fits c = c.move_pages.ensures.fits c.args.size c.args.items.now c.args.window.now
    (one_listed c.args.size c.args.window.now c.args.items.now c.index-items-0.result c.item_move.result c.if-items-eq1.true c.index-items-0.is c.item_move.ensures)
