use Rattle.std.proofs.Common.{◌∙◌, sym, ap, arith, length}
use Rattle.l4_step_lines.proofs.LineNumbers.{numbers_whole, numbers_many, numbers_bad}
use Rattle.l4_step_lines.proofs.numbers.numbers.Goals as goal

pub returns-in-None : goal.returns-in-None
returns-in-None c = numbers_whole _ _ _ c.loop-count.invariant.2 c.in-None.ensures

pub returns-in_err-value-in-Some : goal.returns-in_err-value-in-Some
returns-in_err-value-in-Some c =
    numbers_bad _ _ _ _ _ _ _ c.from_residual.ensures c.loop-count.invariant.2 c.in-Some.ensures.1 (sym c.in-Some.ensures.2 ∙ c.in_err-value-in-Some.was)

pub returns-in-None-next_token : goal.returns-in-None-next_token
returns-in-None-next_token c = numbers_whole _ _ _ c.loop-count.invariant.2 c.in-None-next_token.ensures

pub returns-in-Some-next_token : goal.returns-in-Some-next_token
returns-in-Some-next_token c = numbers_many _ (omega (arith, ap length c.in-Some-next_token.ensures))
