use Rattle.std.proofs.Common.{Option, sym, subst}
use Rattle.l4_lock.specs.Locked.{Lock}
use Rattle.l4_c_queries.specs.Traced.{JudgesLinks, TellsJudgement}
use Rattle.l4_c_locks.proofs.tracing.l4_lock_check_provenance.Goals as goal

pub returns-clause-told : goal.returns-clause-told
returns-clause-told c =
    subst (λ (old : Option Lock). TellsJudgement old c.args.space c.args.page c.args.links.now c.judge_links-judged.result) (sym c.in-Some.ensures.taken)
    (subst (λ (l : Lock). JudgesLinks l (record { space = c.args.space; page = c.args.page }) c.args.links.now c.judge_links-judged.result) c.deref.ensures c.judge_links-judged.ensures)
