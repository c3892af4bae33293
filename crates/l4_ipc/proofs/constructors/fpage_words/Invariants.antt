use Rattle.std.proofs.Common.{take}
use Rattle.std.specs.List.{AllZip}
use Rattle.l4_ipc.specs.Constructors.{IsWordOf}
use Rattle.l4_ipc.proofs.constructors.fpage_words.Given as goal

abbrev pub invariant-loop-fpage : goal.invariant-loop-fpage
invariant-loop-fpage l = AllZip IsWordOf (take l.fpage-index l.fpages) l.words.items
