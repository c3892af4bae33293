use Rattle.std.proofs.Common.{List, take}
use Rattle.l4_fpage.specs.declared.fpages.Fpage.{Fpage}
use Rattle.l4_unmap.specs.Unmap.{UnmapReads, Unmaps}
use Rattle.l4_unmap.proofs.unmap_words.Given as goal

-- the fpages before this one are taken
abbrev pub invariant-loop-i : goal.invariant-loop-i
invariant-loop-i l = (fpages : List Fpage) → UnmapReads l.control l.words fpages → Unmaps l.size l.space l.own (take l.i fpages) l.fn.forest l.forest
