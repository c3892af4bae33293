use Rattle.std.proofs.Common.{inr, refl}
use Rattle.l4_c.proofs.giving.answer.Goals as goal

pub returns-in-Ok : goal.returns-in-Ok
returns-in-Ok c =
    inr (c.in-Ok.message, c.in-Ok.ensures.ok, c.answer.result, c.answer.new.self, c.answer.ensures.answers, c.message_told.ensures, refl)
