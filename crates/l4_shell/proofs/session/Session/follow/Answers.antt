use Rattle.std.proofs.Common.{subst}
use Rattle.l4_ipc.specs.Machine.{Machine}
use Rattle.l4_servers.specs.Acting.{IsFirstReady}
use Rattle.l4_shell.proofs.Going.{goes_on, quiet_on}
use Rattle.l4_shell.proofs.session.Session.follow.Goals as goal

pub serve-acted-requires : goal.serve-acted-requires
serve-acted-requires g c = subst (λ (x : Machine). IsFirstReady x.threads c.args.self.now.servers c.in-Some.first) c.kernel.ensures c.in-Some.ensures

pub returns-in_default : goal.returns-in_default
returns-in_default g c = λ had has_is. quiet_on g.S.Sink.has_told _ _ _ _ had _ _ _ has_is c.kernel.ensures c.in_default.ensures c.tell_waiting.ensures

pub returns : goal.returns
returns g c = λ had has_is. goes_on g.S.Sink.has_told _ _ _ had _ _ _ _ _ has_is c.serve-acted.ensures c.tell_waiting-2.ensures
