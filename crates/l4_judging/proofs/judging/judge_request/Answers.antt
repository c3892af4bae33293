use Rattle.std.proofs.Common.{◌∙◌, ap, option_map}
use Rattle.l4_answers.specs.Lines.{later_lines}
use Rattle.l4_judging.proofs.JudgedLines.{request_judged}
use Rattle.l4_judging.proofs.judging.judge_request.Goals as goal

pub returns : goal.returns
returns g c =
    request_judged c.args.judged.now c.args.expected _ _ _ _ _ _ _ _ _ c.args.steps _ _ _ _ _ _
    c.as_slice.ensures.value c.as_ref.ensures.value c.as_ref-2.ensures.value (c.later_requests.ensures ∙ ap (λ r. option_map later_lines r) c.take.ensures.value) c.put_short-short.ensures.value c.stops.ensures c.compare_request-same.ensures.value
    c.differs.ensures c.differs-judged.ensures c.put_short-short.ensures.told c.compare_request-same.ensures.told
