use Rattle.std.proofs.Common.{Ok, ap, ◌∙◌, rules}
use Rattle.l4_symbols.specs.Words.{WindowWord}
use Rattle.l4_symbols.proofs.Reread.{window_once}
use Rattle.l4_symbols.proofs.Computed.{window_read, window_unread, window_failed}
use Rattle.l4_symbols.proofs.words.window_word.Goals as goal

pub returns-in-Ok-window_of-clause-only : goal.returns-in-Ok-window_of-clause-only
returns-in-Ok-window_of-clause-only c word named =
    let here : WindowWord c.args.size c.args.token.now c.word.result = search rules in
    ap Ok (window_once c.args.size c.args.token.now c.word.result word here named)

pub returns-in-Ok-window_of-clause-value : goal.returns-in-Ok-window_of-clause-value
returns-in-Ok-window_of-clause-value c = window_read c.args.size c.args.token.now c.in-Ok.parts c.word.result c.in-Ok.ensures (ap Ok c.word.ensures.value ∙ c.in-Ok-window_of.ensures.value)

pub returns-in-Err-clause-value : goal.returns-in-Err-clause-value
returns-in-Err-clause-value c = window_unread c.args.size c.args.token.now c.in-Err.reason c.in-Err.ensures

pub returns-in-Err-window_of-clause-value : goal.returns-in-Err-window_of-clause-value
returns-in-Err-window_of-clause-value c = window_failed c.args.size c.args.token.now c.in-Ok.parts c.in-Err-window_of.reason c.in-Ok.ensures c.in-Err-window_of.ensures.value
