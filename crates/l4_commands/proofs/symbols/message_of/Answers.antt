use Rattle.std.proofs.Common.{◌≡◌, Some, List, ℕ, Ok, Err, subst, ap, ◌∙◌}
use Rattle.l4_fpage.specs.declared.sizes.PageSize.{PageSize}
use Rattle.l4_symbols.specs.Rows.{row_added, row_in}
use Rattle.l4_commands.proofs.MessageWords.{message_none, message_begun, message_unbegun, message_more, message_bad, message_whole}
use Rattle.l4_commands.proofs.symbols.message_of.Goals as goal

pub returns-in_default : goal.returns-in_default
returns-in_default c = ap (λ (ws : List ℕ). Some ws) c.new.ensures ∙ message_none _ _ c.in_default.ensures

pub returns-in_default-begin : goal.returns-in_default-begin
returns-in_default-begin c = message_unbegun _ _ _ _ _ c.in-Some.ensures c.in_default-begin.ensures.err

pub loop-token-init : goal.loop-token-init
loop-token-init c = (c.in-Ok.ensures.ok.0, message_begun _ _ _ _ _ c.in-Some.ensures c.in-Ok.ensures.ok.1)

-- the row is added in the size of the message in hand, which is the one of the line
pub loop-token-preserved : goal.loop-token-preserved
loop-token-preserved c = (
  c.add.ensures.size ∙ c.loop-token.invariant.0,
  message_more _ _ _ _ _ _ _ c.loop-token.invariant.1 c.in-Some-next_token.ensures
      (subst (λ (z : PageSize). row_added z c.in-Some-next_token.token.now (row_in c.loop-token.message) ≡ Ok (row_in c.add.new.self)) c.loop-token.invariant.0 c.in-Ok-add.ensures.row),
)

pub returns-in_default-add : goal.returns-in_default-add
returns-in_default-add c =
    message_bad _ _ _ _ _ _ _ c.loop-token.invariant.1 c.in-Some-next_token.ensures
    (subst (λ (z : PageSize). row_added z c.in-Some-next_token.token.now (row_in c.loop-token.message) ≡ Err c.in_default-add.field-0) c.loop-token.invariant.0 c.in_default-add.ensures.row)

pub returns : goal.returns
returns c = ap (λ (ws : List ℕ). Some ws) c.words.ensures ∙ message_whole _ _ _ _ c.loop-token.invariant.1 c.in_default-next_token.ensures
