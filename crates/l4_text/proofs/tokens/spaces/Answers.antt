use Rattle.std.proofs.Common.{◌∙◌, ap, length, unwrap_or}
use Rattle.l4_text.specs.Inside.Reading.{is_no_space}
use Rattle.l4_text.proofs.Parts.{position_or}
use Rattle.l4_text.proofs.tokens.spaces.Goals as goal

pub returns-clause-value : goal.returns-clause-value
returns-clause-value c =
    c.unwrap_or.ensures ∙ ap (λ o. unwrap_or o (length c.args.line.now)) c.first_other.ensures ∙ position_or is_no_space c.args.line.now
