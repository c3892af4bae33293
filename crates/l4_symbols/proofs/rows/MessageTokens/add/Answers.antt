use Rattle.std.proofs.Common.{ℕ, Ok, sym, ap, ◌∙◌}
use Rattle.l4_symbols.specs.Rows.{row_of, tag_in}
use Rattle.l4_symbols.proofs.rows.MessageTokens.add.Goals as goal

-- the label of the message stays, and so does the tag

pub returns-in-Ok-clause-row : goal.returns-in-Ok-clause-row
returns-in-Ok-clause-row c =
    c.in-Ok.ensures.row (tag_in c.args.self.now.tag c.args.self.now.message.message.label)
    ∙ ap (λ (label : ℕ). Ok (row_of (tag_in c.args.self.now.tag label) c.add.new.self.message)) (sym c.add.ensures.label)

pub returns-in-Err-clause-row : goal.returns-in-Err-clause-row
returns-in-Err-clause-row c = c.in-Err.ensures.row (tag_in c.args.self.now.tag c.args.self.now.message.message.label)
