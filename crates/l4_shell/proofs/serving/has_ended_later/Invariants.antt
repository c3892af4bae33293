use Rattle.std.proofs.Common.{◌≡◌, take}
use Rattle.l4_record.specs.Seated.{is_among}
use Rattle.l4_shell.specs.Inside.Telling.{ended_later}
use Rattle.l4_shell.proofs.serving.has_ended_later.Given as goal

abbrev pub invariant-loop-next : goal.invariant-loop-next
invariant-loop-next l = l.ended ≡ is_among l.thread (ended_later (take l.next-index l.steps))
