use Rattle.l4_symbols.proofs.MessageRows.{number_begun, label_begun, not_begun}
use Rattle.l4_symbols.proofs.rows.MessageTokens.begin.Goals as goal

pub returns-in-Some-clause-ok : goal.returns-in-Some-clause-ok
returns-in-Some-clause-ok c = (c.labelled.ensures.size, number_begun c.args.token.now c.in-Some.word c.labelled.result.message c.in-Some.ensures c.labelled.ensures.empty)

pub returns-in-Ok-clause-ok : goal.returns-in-Ok-clause-ok
returns-in-Ok-clause-ok c = (c.in-Ok.ensures.ok.0, label_begun c.args.token.now c.in-Ok.message.message c.in_default.ensures c.in-Ok.ensures.ok.1)

pub returns-in-Err-clause-err : goal.returns-in-Err-clause-err
returns-in-Err-clause-err c = not_begun c.args.token.now c.in-Err.reason c.in_default.ensures c.in-Err.ensures.err
