use Rattle.std.proofs.Common.{◌∙◌, ap}
use Rattle.l4_text.proofs.Spelled.{number_back}
use Rattle.l4_text.specs.Numbers.{decimal_number_of}
use Rattle.l4_plan_lines.proofs.reading.number_of.Goals as goal

pub returns : goal.returns
returns c n small e = c.decimal_number.ensures ∙ ap decimal_number_of e ∙ number_back n small
