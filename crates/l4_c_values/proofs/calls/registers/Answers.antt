use Rattle.std.proofs.Common.{sym, arith}
use Rattle.std.proofs.lemmas.List.{length-take-le}
use Rattle.l4_c_values.proofs.Lists.{take_whole}
use Rattle.l4_c_values.proofs.calls.registers.Goals as goal

pub returns-then-words-le-MAX_WORDS-clause-first : goal.returns-then-words-le-MAX_WORDS-clause-first
returns-then-words-le-MAX_WORDS-clause-first c = sym (take_whole 64 c.args.words.now c.if-words-le-MAX_WORDS.true)

pub slice_bounds-result-end : goal.slice_bounds-result-end
slice_bounds-result-end c = let more = c.if-words-le-MAX_WORDS.false in sym (length-take-le 64 c.args.words.now (omega (arith, more)))

pub returns-clause-fits : goal.returns-clause-fits
returns-clause-fits c = let more = c.if-words-le-MAX_WORDS.false in let e = length-take-le 64 c.args.words.now (omega (arith, more)) in omega (arith, e)
