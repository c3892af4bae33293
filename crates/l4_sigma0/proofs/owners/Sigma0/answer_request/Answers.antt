use Rattle.l4_sigma0.specs.Owners.{Owners, NamesPages}
use Rattle.l4_sigma0.proofs.Maps.{unwanted}
use Rattle.l4_sigma0.proofs.Wanted.{asks_wants, asks_alone, asks_nothing}
use Rattle.std.proofs.Common.{refl, subst}
use Rattle.l4_sigma0.proofs.owners.Sigma0.answer_request.Goals as goal

pub returns-in_default-clause-answers : goal.returns-in_default-clause-answers
returns-in_default-clause-answers c = λ m. rw (← c.self.view_is) (λ reads. unwanted _ c.args.from_space m _ (asks_nothing c.self.inside.size m c.args.request.now reads c.in_default.ensures) refl)

pub returns-clause-answers : goal.returns-clause-answers
returns-clause-answers c = λ m reads.
    let names = subst (λ (t : Owners). NamesPages t.size c.args.request.now.fpage c.in-Some.block.first c.in-Some.block.log) c.self.view_is c.in-Some.ensures.1 in
    c.give.ensures.answers m (asks_wants c.args.self.now.size m c.args.request.now reads _ _ c.in-Some.ensures.0 names) (asks_alone c.args.self.now.size m c.args.request.now reads _ _ names)
