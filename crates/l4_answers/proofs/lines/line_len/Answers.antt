use Rattle.std.proofs.Common.{◌∙◌, ◌==◌, ap, length, unwrap_or}
use Rattle.l4_text.proofs.Parts.{position_or}
use Rattle.l4_answers.proofs.lines.line_len.Goals as goal

pub returns-clause-value : goal.returns-clause-value
returns-clause-value c =
    c.unwrap_or.ensures ∙ ap (λ o. unwrap_or o (length c.args.bytes.now)) c.first_newline.ensures ∙ position_or (λ byte. byte == 10) c.args.bytes.now
