use Rattle.std.proofs.Common.{take}
use Rattle.l4_ipc.specs.Machine.{Machine}
use Rattle.l4_record.specs.History.{HasEvents}
use Rattle.l4_record.proofs.Replayed.{Done}
use Rattle.l4_provenance_check.proofs.passing.replay_from.Given as goal

abbrev pub invariant-loop-number : goal.invariant-loop-number
invariant-loop-number l = (boot : Machine) → HasEvents boot (take l.first l.fn.history.entries) l.fn.kernel → Done boot l.fn.history.entries l.number l.kernel
