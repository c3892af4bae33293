use Rattle.std.proofs.Common.{refl, inl, inr}
use Rattle.l4_c.proofs.stepping.start.Goals as goal

pub returns-then-not-write_call : goal.returns-then-not-write_call
returns-then-not-write_call c = inl (c.if-not-write_call.ensures.none refl, c.refused.ensures, refl)

pub returns : goal.returns
returns c = inr (c.write_call.new.call, c.if-not-write_call.ensures.is refl, c.start_call.ensures)
