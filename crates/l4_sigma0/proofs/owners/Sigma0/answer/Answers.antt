use Rattle.std.proofs.Common.{sym, subst}
use Rattle.l4_msg.specs.declared.messages.Message.{Message}
use Rattle.l4_sigma0.specs.Owners.{Answers}
use Rattle.l4_sigma0.proofs.Maps.{unwanted}
use Rattle.l4_sigma0.proofs.Wanted.{asks_itself, wants_nothing}
use Rattle.l4_sigma0.proofs.owners.Sigma0.answer.Goals as goal

pub returns-in-Some-clause-answers : goal.returns-in-Some-clause-answers
returns-in-Some-clause-answers c =
    subst (λ (x : Message). Answers c.args.self.now c.args.from_space c.args.message.now x c.answer_fault-base.new.self) (sym c.map_answer.ensures.is)
    (c.answer_fault-base.ensures.answers c.args.message.now c.in-Some.ensures.reads)

pub returns-in-Some-read-clause-answers : goal.returns-in-Some-read-clause-answers
returns-in-Some-read-clause-answers c =
    subst (λ (x : Message). Answers c.args.self.now c.args.from_space c.args.message.now x c.answer_request-base.new.self) (sym c.map_answer-in-Some-read.ensures.is)
    (c.answer_request-base.ensures.answers c.args.message.now (asks_itself c.args.message.now c.in-Some-read.request c.in-Some-read.ensures.reads))

pub returns-clause-answers : goal.returns-clause-answers
returns-clause-answers c =
    unwanted c.args.self.now c.args.from_space c.args.message.now _ (wants_nothing c.args.self.now.size c.args.message.now c.in_default.ensures.reads c.in_default-read.ensures.reads) c.map_answer-2.ensures.is
