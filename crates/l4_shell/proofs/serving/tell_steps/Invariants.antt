use Rattle.std.proofs.Common.{take}
use Rattle.std.specs.List.{flat_map}
use Rattle.l4_answers.specs.Reports.{AddsAll}
use Rattle.l4_shell.specs.Inside.Telling.{next_reports}
use Rattle.l4_shell.proofs.serving.tell_steps.Given as goal

abbrev pub invariant-loop-next : goal.invariant-loop-next
invariant-loop-next g l =
    AddsAll g.S.Sink.has_told l.initial.sink l.sink (flat_map (next_reports l.kernel) (take l.next-index l.steps))
