use Rattle.std.proofs.Common.{◌≢◌, ℕ, ◌<◌, ◌^◌}
use Rattle.l4_symbols.proofs.pages.log_of.Given as goal

abbrev pub invariant-loop-log : goal.invariant-loop-log
invariant-loop-log l = (k : ℕ) → k < l.log → l.count ≢ 2 ^ k
