use Rattle.l4_judging.proofs.JudgedLines.{answer_judged}
use Rattle.std.proofs.Common.{◌∙◌, sym}
use Rattle.l4_judging.proofs.judging.judge_answer.Goals as goal

pub returns : goal.returns
returns g c =
    answer_judged c.args.judged.now c.in-Some.expected c.args.number c.args.said.now _ _ _ _ _ _ _ _ (sym c.take.ensures.value ∙ c.in-Some.is) c.compare-same.ensures.value c.after_answer.ensures c.answer_count.ensures c.differs-judged.ensures c.compare-same.ensures.told
