use Rattle.std.proofs.Common.{rules}
use Rattle.l4_board.proofs.Boards.{looks}
use Rattle.l4_board.proofs.board.Board.look.Goals as goal

pub load-requires : goal.load-requires
load-requires c = (search rules, search rules, looks _ c.watch.inside.seat.id c.watch.inside.seat.me c.watch.invariant)
