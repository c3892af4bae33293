use Rattle.std.proofs.Common.{take}
use Rattle.std.specs.List.{flat_map}
use Rattle.l4_text.specs.Streams.{Tells}
use Rattle.l4_history.specs.Inside.Moving.{page_line}
use Rattle.l4_history.proofs.moves.put_moved.Given as goal

abbrev pub invariant-loop-page : goal.invariant-loop-page
invariant-loop-page g l =
    Tells (g.W.Write.contents l.initial.writer) (g.W.Write.contents l.writer) l.initial.out l.out (flat_map (page_line l.kernel.mappings) (take l.page-index l.moved))
