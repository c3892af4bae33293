use Rattle.std.proofs.Common.{◌∙◌, sym, ap, arith, length}
use Rattle.l4_commands.proofs.MessageWords.{fpages_whole, fpages_many, fpages_bad, none_read}
use Rattle.l4_commands.proofs.symbols.read_fpages.Goals as goal

pub returns-in-None : goal.returns-in-None
returns-in-None c = fpages_whole _ _ _ _ c.loop-place.invariant.2 c.in-None.ensures (omega (arith, ap length c.in-None.ensures))

pub returns-in_err-word-in-Some : goal.returns-in_err-word-in-Some
returns-in_err-word-in-Some c =
    none_read _ _ _ c.from_residual.ensures (fpages_bad _ _ _ _ _ _ c.loop-place.invariant.2 c.in-Some.ensures.1 (sym c.in-Some.ensures.2 ∙ c.in_err-word-in-Some.was))

pub returns-in-None-next_token : goal.returns-in-None-next_token
returns-in-None-next_token c = fpages_whole _ _ _ _ c.loop-place.invariant.2 c.in-None-next_token.ensures (omega (arith, ap length c.in-None-next_token.ensures))

pub returns-in-Some-next_token : goal.returns-in-Some-next_token
returns-in-Some-next_token c = fpages_many _ _ (omega (arith, ap length c.in-Some-next_token.ensures))
