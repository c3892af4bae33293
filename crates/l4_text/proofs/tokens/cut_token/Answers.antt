use Rattle.l4_text.proofs.Parts.{next_none, next_some}
use Rattle.l4_text.proofs.tokens.cut_token.Goals as goal

pub returns-then-end-eq0 : goal.returns-then-end-eq0
returns-then-end-eq0 c = next_none _ _ _ c.spaces-start.ensures.value c.token_len-end.ensures.value c.if-end-eq0.true

pub returns : goal.returns
returns c = next_some _ _ _ c.spaces-start.ensures.value c.token_len-end.ensures.value c.if-end-eq0.false
