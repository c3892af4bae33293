use Rattle.std.proofs.Common.{List, ℕ, Ok, sym, ap, ◌∙◌, arith}
use Rattle.l4_symbols.specs.Rows.{row_of}
use Rattle.l4_symbols.proofs.MessageRows.{word_behind, word_full, word_fits, some_items, no_items}
use Rattle.l4_symbols.proofs.messages.SymbolicMessage.add_word.Goals as goal

pub returns-then-not-is_empty-clause-row : goal.returns-then-not-is_empty-clause-row
returns-then-not-is_empty-clause-row c = λ tag. word_behind c.args.word tag c.args.self.now.message (some_items _ c.if-not-is_empty.ensures)

pub returns-then-len-ge-MAX_UNTYPED-clause-row : goal.returns-then-len-ge-MAX_UNTYPED-clause-row
returns-then-len-ge-MAX_UNTYPED-clause-row c =
    λ tag. word_full c.args.word tag c.args.self.now.message (no_items _ c.if-not-is_empty.ensures) (omega (arith, c.len.ensures.value, c.if-len-ge-MAX_UNTYPED.true))

pub returns-clause-row : goal.returns-clause-row
returns-clause-row c =
    λ tag.
    let m = c.args.self.now.message in
    word_fits c.args.word tag m (no_items _ c.if-not-is_empty.ensures) (omega (arith, c.len.ensures.value, c.if-len-ge-MAX_UNTYPED.false, no_items _ c.if-not-is_empty.ensures))
    ∙ ap (λ (ws : List ℕ). Ok (record (row_of tag m) { untyped = ws })) (sym c.push.ensures.items)
