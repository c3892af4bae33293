use Rattle.l4_servers.specs.Acting.{IsFirstReady}
use Rattle.l4_shell.specs.Sessions.{session}
use Rattle.l4_shell.proofs.Going.{Acting}
use Rattle.l4_shell.proofs.session.Session.serve.Given as goal

abbrev pub invariant-loop : goal.invariant-loop
invariant-loop g l =
    Acting (session l.initial.self.kernel l.initial.self.servers) l.thread l.counter (session l.self.kernel l.self.servers) l.ended g.S.Sink.has_told l.initial.sink l.sink
    × IsFirstReady l.self.kernel.machine.threads l.self.servers l.server
