use Rattle.std.proofs.Common.{List}
use Rattle.l4_fpage.specs.declared.fpages.Fpage.{Fpage}
use Rattle.l4_unmap.proofs.Registers.{ReadsFirst}
use Rattle.l4_unmap.proofs.test_words.Given as goal

-- the registers so far hold fpages
abbrev pub invariant-loop-i : goal.invariant-loop-i
invariant-loop-i l = (fpages : List Fpage) × ReadsFirst l.words l.i fpages
