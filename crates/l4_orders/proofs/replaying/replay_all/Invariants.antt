use Rattle.std.proofs.Common.{take}
use Rattle.std.specs.List.{All}
use Rattle.l4_orders.specs.Witnesses.{IsWitness}
use Rattle.l4_orders.proofs.replaying.replay_all.Given as goal

abbrev pub invariant-loop-one : goal.invariant-loop-one
invariant-loop-one l = All (IsWitness l.frames l.size l.plan) (take l.one-index l.found)
