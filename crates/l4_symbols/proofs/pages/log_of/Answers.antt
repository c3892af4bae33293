use Rattle.std.proofs.Common.{◌≡◌, ◌^◌, rules, sym, arith}
use Rattle.l4_symbols.proofs.Computed.{log_is, no_log_is}
use Rattle.l4_symbols.proofs.Named.{no_log}
use Rattle.l4_symbols.proofs.pages.log_of.Goals as goal

pub returns-then-count-log-clause-value : goal.returns-then-count-log-clause-value
returns-then-count-log-clause-value c =
    let power : c.args.count ≡ 2 ^ c.loop-log.log = search rules in
    sym (log_is 32 c.loop-log.log c.args.count c.loop-log-test.true power)

pub returns-clause-none : goal.returns-clause-none
returns-clause-none c = λ _ k. no_log c.args.count (omega (arith, c.ranges.count.fits)) (λ j lt. c.loop-log.invariant j (omega (arith, lt))) k

pub returns-clause-value : goal.returns-clause-value
returns-clause-value c = sym (no_log_is 32 c.args.count (λ k lt. c.loop-log.invariant k (omega (arith, lt))))
