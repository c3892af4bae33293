use Rattle.std.proofs.Common.{◌∙◌, ap, sym, option_map}
use Rattle.l4_judging.proofs.JudgedLines.{asks_request, line_judged}
use Rattle.l4_judging.proofs.judging.judge_line.Goals as goal

pub returns : goal.returns
returns g c =
    line_judged _ _ c.args.judged.now _ c.in-Some-read_request.request c.args.number c.args.line.now c.step_count-steps.result c.starts_call-caller.result _ c.in-Some-expect.expected _ _ _ _
    (sym c.said_in.ensures ∙ ap (λ o. option_map (λ s. s.now) o) c.in_default.is)
    (asks_request c.args.number c.args.line.now c.in-Some-read_request.request (sym c.is_silent.ensures ∙ c.if-is_silent.false) (sym c.read_request.ensures ∙ c.in-Some-read_request.is))
    c.in-Some-expect.ensures c.step_count-steps.ensures c.starts_call-caller.ensures (c.keep.ensures c.if-not-keep.false) c.judge_request.ensures
