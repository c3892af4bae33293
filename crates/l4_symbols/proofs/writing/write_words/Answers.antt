use Rattle.l4_text.proofs.Telling.{all_out, some_out}
use Rattle.l4_symbols.proofs.writing.write_words.Goals as goal

pub returns-in-Ok-clause-ok : goal.returns-in-Ok-clause-ok
returns-in-Ok-clause-ok g c = all_out _ _ _ _ _ _ c.new-out.ensures c.tell_words.ensures c.in-Ok.ensures.ok

pub returns-in-Err-clause-err : goal.returns-in-Err-clause-err
returns-in-Err-clause-err g c = some_out _ _ _ _ _ _ c.new-out.ensures c.tell_words.ensures c.in-Err.ensures.err.1
