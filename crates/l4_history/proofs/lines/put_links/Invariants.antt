use Rattle.std.proofs.Common.{take}
use Rattle.l4_text.specs.Streams.{Tells}
use Rattle.l4_history.specs.Chains.{link_lines}
use Rattle.l4_history.proofs.lines.put_links.Given as goal

abbrev pub invariant-loop-link : goal.invariant-loop-link
invariant-loop-link g l =
    Tells (g.W.Write.contents l.initial.writer) (g.W.Write.contents l.writer) l.initial.out l.out (link_lines (g.H.Replayable.entries l.history) (take l.link-index l.links))
