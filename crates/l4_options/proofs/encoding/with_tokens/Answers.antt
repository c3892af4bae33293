use Rattle.std.proofs.Common.{◌∙◌, refl}
use Rattle.l4_options.proofs.Words.{all_tokens, one_token}
use Rattle.l4_options.proofs.encoding.with_tokens.Goals as goal

pub loop-token-init : goal.loop-token-init
loop-token-init c = (refl, λ after adds. adds)

pub loop-token-preserved : goal.loop-token-preserved
loop-token-preserved c = (
  c.in_default.ensures.ok.0 ∙ c.loop-token.invariant.0,
  one_token c.args.begun.size c.loop-token.message.size c.args.tokens.now c.loop-token.token-index _ c.as_bytes.result.now c.args.begun.message c.loop-token.message.message c.add.new.self.message c.loop-token-test.true
      c.loop-token.invariant.0 c.as_bytes.ensures.value c.in_default.ensures.ok.1 c.loop-token.invariant.1,
)

pub returns : goal.returns
returns c = all_tokens c.args.begun.size c.args.tokens.now c.loop-token.token-index c.args.begun.message c.loop-token.message.message c.loop-token-test.false c.loop-token.invariant.1
