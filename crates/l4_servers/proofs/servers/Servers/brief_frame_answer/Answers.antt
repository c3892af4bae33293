use Rattle.std.proofs.Common.{ap, refl, subst}
use Rattle.l4_sigma0.specs.Owners.{Owners, Answers}
use Rattle.l4_sigma0.proofs.Maps.{unwanted}
use Rattle.l4_sigma0.proofs.Wanted.{asks_itself, wants_nothing}
use Rattle.l4_msg.specs.Protocols.{one_item}
use Rattle.l4_msg.specs.declared.items.Item.TheVariants.{Map}
use Rattle.l4_pager.specs.Briefs.{brief_message}
use Rattle.l4_servers.specs.Servers.{Servers}
use Rattle.l4_servers.proofs.servers.Servers.brief_frame_answer.Goals as goal

pub returns-in-Some-clause-answers : goal.returns-in-Some-clause-answers
returns-in-Some-clause-answers c =
    subst (λ (o : Owners). Answers o c.args.from_space (brief_message c.args.brief.now) (one_item (Map c.answer_fault.result.0 c.answer_fault.result.1)) c.answer_fault.new.self) (ap (λ (s : Servers). s.owners) c.self.view_is)
    (c.answer_fault.ensures.answers (brief_message c.args.brief.now) c.in-Some.ensures)

pub returns-in-Some-request-clause-answers : goal.returns-in-Some-request-clause-answers
returns-in-Some-request-clause-answers c =
    subst (λ (o : Owners). Answers o c.args.from_space (brief_message c.args.brief.now) (one_item (Map c.answer_request.result.0 c.answer_request.result.1)) c.answer_request.new.self) (ap (λ (s : Servers). s.owners) c.self.view_is)
    (c.answer_request.ensures.answers (brief_message c.args.brief.now) (asks_itself (brief_message c.args.brief.now) _ c.in-Some-request.ensures))

pub returns-clause-answers : goal.returns-clause-answers
returns-clause-answers c =
    unwanted c.args.self.now.owners c.args.from_space (brief_message c.args.brief.now) _ (wants_nothing c.args.self.now.owners.size (brief_message c.args.brief.now) c.in_default.ensures c.in_default-request.ensures) refl
