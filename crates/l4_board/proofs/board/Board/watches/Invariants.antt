use Rattle.std.proofs.Common.{◌≡◌, vec_len, vec_capacity}
use Rattle.std.specs.List.{All}
use Rattle.l4_board.specs.Board.{IsNewWatch}
use Rattle.l4_board.proofs.board.Board.watches.Given as goal

-- as many watches as rounds, each of the board and new
abbrev pub invariant-loop-i : goal.invariant-loop-i
invariant-loop-i l =
    (vec_len l.watches ≡ l.i) × (vec_capacity l.watches ≡ l.count) × All (IsNewWatch l.self) l.watches.items
