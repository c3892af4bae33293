use Rattle.std.proofs.Common.{ℕ, inl, subst}
use Rattle.l4_msg.specs.Protocols.{one_item}
use Rattle.l4_msg.specs.declared.items.Item.TheVariants.{Map}
use Rattle.l4_pager.specs.Briefs.{brief_message}
use Rattle.l4_sigma0.specs.Owners.{Answers}
use Rattle.l4_servers.proofs.servers.Servers.brief_answer.Goals as goal

pub returns-then-thread-eq-SIGMA0-clause-answers : goal.returns-then-thread-eq-SIGMA0-clause-answers
returns-then-thread-eq-SIGMA0-clause-answers c = inl (
  c.if-thread-eq-SIGMA0.true,
  (
    c.brief_frame_answer.new.self.owners,
    subst (λ (k : ℕ). Answers c.args.self.now.owners k (brief_message c.args.brief.now) (one_item (Map c.brief_frame_answer.result.0 c.brief_frame_answer.result.1)) c.brief_frame_answer.new.self.owners) c.space_of_sender.ensures c.brief_frame_answer.ensures.answers,
    c.brief_frame_answer.ensures.others,
  ),
)
