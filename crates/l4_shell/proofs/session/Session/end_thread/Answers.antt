use Rattle.std.proofs.Common.{ap, ◌∙◌, inl, inr}
use Rattle.l4_servers.specs.Servers.{Servers, without}
use Rattle.l4_shell.proofs.Going.{follows_on, refuses_on}
use Rattle.l4_shell.proofs.session.Session.end_thread.Goals as goal

pub returns-in_default : goal.returns-in_default
returns-in_default g c =
    let r = refuses_on g.S.Sink.has_told _ _ c.args.self.now.servers _ c.args.line _ _ _ _ _ c.delete_call-call.ensures c.in_default.ensures.servers c.in_default.ensures.told in (r.0, inr r.1, r.2)

pub returns : goal.returns
returns g c =
    let f = follows_on g.S.Sink.has_told _ _ c.args.self.now.servers _ _ _ _ _ _ _ _ _ _ c.delete_call-call.ensures (c.forget.ensures ∙ ap (λ (s : Servers). without s c.args.thread) c.in-Some.ensures.servers) c.in-Some.ensures.told c.follow.ensures in (f.0, inl f.1, f.2)
