use Rattle.std.proofs.lemmas.Result.{IfOk-weaker}
use Rattle.l4_options.proofs.Words.{of_tag}
use Rattle.l4_options.proofs.encoding.message_of.Goals as goal

pub returns-in-Ok : goal.returns-in-Ok
returns-in-Ok c =
    IfOk-weaker c.with_tokens.result _ _
    (λ named adds. of_tag c.args.size c.in-Ok.begun.size c.args.tokens.now c.in-Some.others.now c.in-Some.tag.now c.as_bytes.result.now c.in-Ok.begun.message named.message c.in-Ok.ensures.ok.0 c.in-Some.ensures.cases.0
    c.as_bytes.ensures.value c.in-Ok.ensures.ok.1 adds)
    c.with_tokens.ensures
