use Rattle.std.specs.String.{string_bytes}
use Rattle.l4_options.proofs.Words.{AreCopied}
use Rattle.l4_options.proofs.testing.copied.Given as goal

abbrev pub invariant-loop-name : goal.invariant-loop-name
invariant-loop-name l = AreCopied string_bytes l.names l.name-index l.copy.items
