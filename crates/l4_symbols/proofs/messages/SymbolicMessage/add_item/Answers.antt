use Rattle.std.proofs.Common.{false, ℕ, List, [], ◌∷◌, map, Ok, sym, ap, ◌∙◌, arith}
use Rattle.std.proofs.lemmas.List.{map-append}
use Rattle.l4_msg.specs.Words.{item_words}
use Rattle.l4_symbols.specs.Rows.{row_of}
use Rattle.l4_symbols.proofs.MessageRows.{item_full, item_fits}
use Rattle.l4_symbols.proofs.messages.SymbolicMessage.add_item.Goals as goal

pub returns-then-len-gt-MAX_UNTYPED-clause-row : goal.returns-then-len-gt-MAX_UNTYPED-clause-row
returns-then-len-gt-MAX_UNTYPED-clause-row c =
    λ tag. item_full (item_words c.args.item false) tag c.args.self.now.message (omega (arith, c.len.ensures.value, c.len-2.ensures.value, c.if-len-gt-MAX_UNTYPED.true))

pub returns-clause-row : goal.returns-clause-row
returns-clause-row c =
    λ tag.
    let m = c.args.self.now.message in
    item_fits (item_words c.args.item false) tag m (omega (arith, c.len.ensures.value, c.len-2.ensures.value, c.if-len-gt-MAX_UNTYPED.false))
    ∙ ap (λ (ws : List (ℕ × ℕ)). Ok (record (row_of tag m) { items = ws })) (sym (map-append (λ item. item_words item false) m.items.items (c.args.item ∷ [])) ∙ ap (map (λ item. item_words item false)) (sym c.push_to.ensures))
