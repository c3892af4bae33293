use Rattle.l4_options.proofs.Decimals.{IsSoFar}
use Rattle.l4_options.proofs.values.digits_in.Given as goal

abbrev pub invariant-loop-byte : goal.invariant-loop-byte
invariant-loop-byte l = IsSoFar l.text l.byte-index l.value
