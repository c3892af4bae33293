use Rattle.std.proofs.Common.{◌∙◌, ap, unwrap_or}
use Rattle.l4_text.proofs.Spelled.{word_back}
use Rattle.l4_text.specs.Numbers.{word_of}
use Rattle.l4_plan_lines.proofs.reading.word_of.Goals as goal

pub returns : goal.returns
returns c w small e =
    c.unwrap_or.ensures ∙ ap (λ o. unwrap_or o 0) (c.word.ensures ∙ ap word_of e ∙ word_back w small)
