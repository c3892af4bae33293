use Rattle.std.proofs.Common.{◌∙◌, nat_lt, ap, length, unwrap_or}
use Rattle.l4_text.proofs.Parts.{position_or}
use Rattle.l4.proofs.segments.file_at.Goals as goal

pub returns-clause-value : goal.returns-clause-value
returns-clause-value c =
    c.unwrap_or.ensures ∙ ap (λ o. unwrap_or o (length c.args.ends.now)) c.end_behind.ensures ∙ position_or (λ end. nat_lt c.args.place end) c.args.ends.now
