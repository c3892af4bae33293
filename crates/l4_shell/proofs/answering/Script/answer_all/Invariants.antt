use Rattle.std.proofs.Common.{◌≡◌}
use Rattle.l4_shell.specs.Sessions.{session, state}
use Rattle.l4_shell.specs.Inside.Scripts.{KeepsSoFar}
use Rattle.l4_shell.proofs.Scripting.{Answered}
use Rattle.l4_shell.proofs.answering.Script.answer_all.Given as goal

abbrev pub invariant-loop-number : goal.invariant-loop-number
invariant-loop-number g l =
    Answered g.S.Sink.has_told g.S.Sink.closed (g.K.SegmentSink.takes l.initial.segments) (state l.initial.self.session.kernel l.initial.self.session.servers l.initial.self.names) (g.R.Read.remaining l.initial.reader) (g.R.Read.remaining l.reader) l.lines.0 l.number (state l.self.session.kernel l.self.session.servers l.self.names) l.initial.sink l.sink
    × (l.initial.self.session.kernel.kept_from ≡ 0
    → KeepsSoFar (g.K.SegmentSink.takes l.initial.segments) g.K.SegmentSink.has_kept l.initial.segments l.segments (session l.self.session.kernel l.self.session.servers))
    × (g.K.SegmentSink.takes l.segments ≡ g.K.SegmentSink.takes l.initial.segments)
