use Rattle.std.proofs.Common.{Option, Some, sym, subst}
use Rattle.l4_pager.specs.Regions.{Regions}
use Rattle.l4_c.specs.Served.{TellsTablesAnswer}
use Rattle.l4_c.proofs.paging.l4_pager_answer.Goals as goal

pub returns-clause-told : goal.returns-clause-told
returns-clause-told c =
    subst (λ (old : Option Regions). TellsTablesAnswer old c.args.words.now c.answer-told.result) (sym c.in-Some.ensures.taken)
    (subst (λ (t : Regions). TellsTablesAnswer (Some t) c.args.words.now c.answer-told.result) c.deref.ensures c.answer-told.ensures)
