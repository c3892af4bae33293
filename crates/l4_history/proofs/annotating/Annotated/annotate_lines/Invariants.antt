use Rattle.std.proofs.Common.{◌≡◌}
use Rattle.l4_shell.specs.ByLines.{state_of}
use Rattle.l4_history.proofs.AnnotatedScript.{LinesSoFar}
use Rattle.l4_history.proofs.annotating.Annotated.annotate_lines.Given as goal

abbrev pub invariant-loop-line : goal.invariant-loop-line
invariant-loop-line g l =
    LinesSoFar l.initial.self.explains l.initial.self.strict l.initial.self.number (state_of l.initial.self.run) l.initial.self.follower (g.R.Read.remaining l.initial.reader)
    (g.W.Write.contents l.initial.writer) l.initial.out (g.R.Read.remaining l.reader) l.lines.0 l.line (state_of l.self.run) l.self.follower (g.W.Write.contents l.writer) l.out
    × (l.self ≡ record l.initial.self { run = l.self.run; follower = l.self.follower })
