use Rattle.l4_naturals.proofs.Adding.{digit_low}
use Rattle.l4_naturals.proofs.digits.digit_at.Goals as goal

pub returns-then-place-digits-clause-low : goal.returns-then-place-digits-clause-low
returns-then-place-digits-clause-low c = digit_low c.args.digits.now c.args.place c.requires
