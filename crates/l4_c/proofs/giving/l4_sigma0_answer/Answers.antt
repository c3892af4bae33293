use Rattle.std.proofs.Common.{Option, Some, sym, subst}
use Rattle.l4_sigma0.specs.Owners.{Owners}
use Rattle.l4_c.specs.Served.{TellsSigma0sAnswer}
use Rattle.l4_c.proofs.giving.l4_sigma0_answer.Goals as goal

pub returns : goal.returns
returns c =
    let r = c.answer-told.result in let words = c.args.words.now in let after = c.answer-told.new.table in
    subst (λ (new : Option Owners). TellsSigma0sAnswer c.args.handle.now.value c.args.space words r new) (sym c.put.ensures)
    (subst (λ (old : Option Owners). TellsSigma0sAnswer old c.args.space words r (Some after)) (sym c.in-Some.ensures.taken)
    (subst (λ (t : Owners). TellsSigma0sAnswer (Some t) c.args.space words r (Some after)) c.deref_mut.ensures.value c.answer-told.ensures))
