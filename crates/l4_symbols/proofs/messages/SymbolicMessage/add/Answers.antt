use Rattle.std.proofs.Common.{Result, false, subst}
use Rattle.l4_msg.specs.Words.{item_words}
use Rattle.l4_symbols.specs.Rows.{Leaves, Row, row_of}
use Rattle.l4_symbols.specs.declared.reasons.Reason.{Reason}
use Rattle.l4_symbols.proofs.MessageRows.{word_row, item_row, no_item_row}
use Rattle.l4_symbols.proofs.messages.SymbolicMessage.add.Goals as goal

pub returns-in-Some-clause-row : goal.returns-in-Some-clause-row
returns-in-Some-clause-row c =
    λ tag.
    let row : Row = row_of tag c.args.self.now.message in
    subst (λ (r : Result Row Reason). Leaves c.add_word.result r (row_of tag c.add_word.new.self.message))
    (word_row c.args.self.now.size c.args.token.now c.in-Some.word row c.in-Some.ensures) (c.add_word.ensures.row tag)

pub returns-in-Ok-clause-row : goal.returns-in-Ok-clause-row
returns-in-Ok-clause-row c =
    λ tag.
    let row : Row = row_of tag c.args.self.now.message in
    subst (λ (r : Result Row Reason). Leaves c.add_item.result r (row_of tag c.add_item.new.self.message))
    (item_row c.args.self.now.size c.args.token.now (item_words c.in-Ok.item false) row c.in_default.ensures c.in-Ok.ensures.value) (c.add_item.ensures.row tag)

pub returns-in-Err-clause-row : goal.returns-in-Err-clause-row
returns-in-Err-clause-row c =
    λ tag. no_item_row c.args.self.now.size c.args.token.now c.in-Err.reason (row_of tag c.args.self.now.message) c.in_default.ensures c.in-Err.ensures.value
