use Rattle.std.proofs.Common.{◌≡◌, drop}
use Rattle.l4_merges.specs.Inside.Tables.{digest_on}
use Rattle.l4_merges.proofs.table.digest_of.Given as goal

abbrev pub invariant-loop-word : goal.invariant-loop-word
invariant-loop-word l = digest_on l.digest (drop l.word-index l.key) ≡ digest_on 0 l.key
