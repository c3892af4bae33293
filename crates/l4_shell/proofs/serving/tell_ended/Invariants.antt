use Rattle.std.proofs.Common.{take}
use Rattle.l4_answers.specs.Reports.{AddsAll}
use Rattle.l4_shell.specs.Sessions.{ended_reports}
use Rattle.l4_shell.proofs.serving.tell_ended.Given as goal

abbrev pub invariant-loop-number : goal.invariant-loop-number
invariant-loop-number g l =
    AddsAll g.S.Sink.has_told l.initial.sink l.sink (ended_reports l.kernel (take l.number-index l.number-items))
