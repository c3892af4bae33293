use Rattle.std.proofs.Common.{take}
use Rattle.l4_text.specs.Streams.{Tells}
use Rattle.l4_judging.proofs.reports.put_bytes.Given as goal

abbrev pub invariant-loop-byte : goal.invariant-loop-byte
invariant-loop-byte g l =
    Tells (g.W.Write.contents l.initial.writer) (g.W.Write.contents l.writer) l.initial.out l.out (take l.byte-index l.bytes)
