use Rattle.std.proofs.Common.{false, Ok, ap, rules}
use Rattle.l4_msg.specs.Words.{item_words}
use Rattle.l4_symbols.specs.Items.{NamesItem}
use Rattle.l4_symbols.proofs.Named.{named_once}
use Rattle.l4_symbols.proofs.Computed.{item_read, item_unread, item_failed}
use Rattle.l4_symbols.proofs.items.item.Goals as goal

pub returns-in-Ok-item_of-clause-only : goal.returns-in-Ok-item_of-clause-only
returns-in-Ok-item_of-clause-only c item named =
    let here : NamesItem c.args.size c.args.token.now c.in-Ok-item_of.item = search rules in
    ap Ok (named_once c.args.size c.args.token.now c.in-Ok-item_of.item item here named)

pub returns-in-Ok-item_of-clause-value : goal.returns-in-Ok-item_of-clause-value
returns-in-Ok-item_of-clause-value c = item_read c.args.size c.args.token.now c.in-Ok.parts (item_words c.in-Ok-item_of.item false) c.in-Ok.ensures c.in-Ok-item_of.ensures.value

pub returns-in-Err-clause-value : goal.returns-in-Err-clause-value
returns-in-Err-clause-value c = item_unread c.args.size c.args.token.now c.in-Err.reason c.in-Err.ensures

pub returns-in-Err-item_of-clause-value : goal.returns-in-Err-item_of-clause-value
returns-in-Err-item_of-clause-value c = item_failed c.args.size c.args.token.now c.in-Ok.parts c.in-Err-item_of.reason c.in-Ok.ensures c.in-Err-item_of.ensures.value
