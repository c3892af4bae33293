use Rattle.l4_ipc.proofs.Moving.{listed_moves}
use Rattle.l4_ipc.proofs.delivering.move_listed.Goals as goal

pub returns-clause-moves : goal.returns-clause-moves
returns-clause-moves c = c.move_pages.ensures.moves c.args.size c.args.items.now c.args.window.now
    (listed_moves c.args.size c.args.window.now c.args.items.now c.listed-moves.result.items c.as_slice.result.now c.as_slice.ensures.value c.listed-moves.ensures)

pub returns-clause-fits : goal.returns-clause-fits
returns-clause-fits c = c.move_pages.ensures.fits c.args.size c.args.items.now c.args.window.now
    (listed_moves c.args.size c.args.window.now c.args.items.now c.listed-moves.result.items c.as_slice.result.now c.as_slice.ensures.value c.listed-moves.ensures)
