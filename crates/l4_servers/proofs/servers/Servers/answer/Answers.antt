use Rattle.l4_servers.proofs.Answering.{by_sigma0}
use Rattle.l4_servers.proofs.servers.Servers.answer.Goals as goal

pub returns-then-thread-eq-SIGMA0-clause-answers : goal.returns-then-thread-eq-SIGMA0-clause-answers
returns-then-thread-eq-SIGMA0-clause-answers c =
    by_sigma0 c.args.kernel.now.threads _ _ _ _ _ _ _ _ _ _ c.self.view_is c.if-thread-eq-SIGMA0.true c.space_of_sender.ensures c.answer.ensures.answers
