use Rattle.l4_text.proofs.Telling.{all_out, some_out}
use Rattle.l4_decode.proofs.decoding.decode.Goals as goal

pub returns-in-Ok-clause-ok : goal.returns-in-Ok-clause-ok
returns-in-Ok-clause-ok g c =
    let told = c.tell.ensures in
    (told.0, told.1, all_out _ _ _ _ _ _ c.new-out.ensures told.2 c.in-Ok.ensures.ok)

pub returns-in-Err-clause-err : goal.returns-in-Err-clause-err
returns-in-Err-clause-err g c =
    let told = c.tell.ensures in
    (told.0, told.1, some_out _ _ _ _ _ _ c.new-out.ensures told.2 c.in-Err.ensures.err.1)
