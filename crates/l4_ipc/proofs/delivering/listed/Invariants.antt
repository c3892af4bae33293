use Rattle.std.proofs.Common.{take}
use Rattle.std.specs.List.{AllZip}
use Rattle.l4_ipc.specs.Inside.Delivering.{IsListed}
use Rattle.l4_ipc.proofs.delivering.listed.Given as goal

abbrev pub invariant-loop-item : goal.invariant-loop-item
invariant-loop-item l = AllZip (IsListed l.size l.window) (take l.item-index l.items) l.moves.items
