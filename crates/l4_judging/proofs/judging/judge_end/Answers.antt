use Rattle.l4_judging.proofs.JudgedLines.{end_judged}
use Rattle.l4_judging.proofs.judging.judge_end.Goals as goal

pub returns : goal.returns
returns g c =
    end_judged _ c.args.judged.now _ _ c.args.number _ _ _ _ _ _ _ _ _ _ _ _ _
    c.as_ref.ensures.value c.as_ref-2.ensures.value c.put_short-short.ensures.value c.stops.ensures c.compare_end-complete.ensures.value
    c.differs.ensures c.differs-found.ensures c.verdict_of-verdict.ensures c.put_short-short.ensures.told c.compare_end-complete.ensures.told c.put_agreement.ensures
