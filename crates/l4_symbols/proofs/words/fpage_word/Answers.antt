use Rattle.std.proofs.Common.{Ok, ap, ◌∙◌, rules}
use Rattle.l4_symbols.specs.Words.{FpageWord}
use Rattle.l4_symbols.proofs.Reread.{fpage_once}
use Rattle.l4_symbols.proofs.Computed.{fpage_read, fpage_unread, fpage_failed}
use Rattle.l4_symbols.proofs.words.fpage_word.Goals as goal

pub returns-in-Ok-fpage_of-clause-only : goal.returns-in-Ok-fpage_of-clause-only
returns-in-Ok-fpage_of-clause-only c word named =
    let here : FpageWord c.args.size c.args.token.now c.word.result = search rules in
    ap Ok (fpage_once c.args.size c.args.token.now c.word.result word here named)

pub returns-in-Ok-fpage_of-clause-value : goal.returns-in-Ok-fpage_of-clause-value
returns-in-Ok-fpage_of-clause-value c = fpage_read c.args.size c.args.token.now c.in-Ok.parts c.word.result c.in-Ok.ensures (ap Ok c.word.ensures.value ∙ c.in-Ok-fpage_of.ensures.value)

pub returns-in-Err-clause-value : goal.returns-in-Err-clause-value
returns-in-Err-clause-value c = fpage_unread c.args.size c.args.token.now c.in-Err.reason c.in-Err.ensures

pub returns-in-Err-fpage_of-clause-value : goal.returns-in-Err-fpage_of-clause-value
returns-in-Err-fpage_of-clause-value c = fpage_failed c.args.size c.args.token.now c.in-Ok.parts c.in-Err-fpage_of.reason c.in-Ok.ensures c.in-Err-fpage_of.ensures.value
