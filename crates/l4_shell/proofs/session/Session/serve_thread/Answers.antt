use Rattle.std.proofs.Common.{◌≡◌, true, false, rules, ◌∙◌, ap, inl, inr}
use Rattle.l4_servers.specs.Servers.{no_longer_served}
use Rattle.l4_servers.proofs.Kept.{as_before}
use Rattle.l4_shell.proofs.Going.{follows_on, refuses_on}
use Rattle.l4_shell.proofs.Served.{serves_not, not_served}
use Rattle.l4_shell.proofs.session.Session.serve_thread.Goals as goal

pub returns-in_default : goal.returns-in_default
returns-in_default g c =
    serves_not g.S.Sink.has_told _ _ c.args.self.now.servers _ _ _ _ _ (c.refuse_to_serve.ensures.servers ∙ c.in_default.ensures.1) (c.refuse_to_serve.ensures.told c.args.self.now.servers c.in_default.ensures.0)

pub returns-then-begins : goal.returns-then-begins
returns-then-begins g c =
    let begins : c.in-Ok.begins ≡ true = search rules in
    let r = refuses_on g.S.Sink.has_told _ _ c.args.self.now.servers _ c.args.line _ _ _ _ _ c.wait-call.ensures
    (c.take_back.ensures ∙ ap (λ s. no_longer_served s c.args.thread) (c.in_default-enter_and_tell.ensures.servers ∙ c.in-Ok.ensures.1) ∙ as_before c.args.self.now.servers _ (not_served c.in-Ok.begins _ begins c.in-Ok.ensures.0)) c.in_default-enter_and_tell.ensures.told in (r.0, inr (inl r.1), r.2)

pub returns-in_default-enter_and_tell : goal.returns-in_default-enter_and_tell
returns-in_default-enter_and_tell g c =
    let begins : c.in-Ok.begins ≡ false = search rules in
    let r = refuses_on g.S.Sink.has_told _ _ c.args.self.now.servers _ c.args.line _ _ _ _ _ c.wait-call.ensures (c.in_default-enter_and_tell.ensures.servers ∙ c.in-Ok.ensures.2 begins) c.in_default-enter_and_tell.ensures.told in (r.0, inr (inl r.1), r.2)

pub returns : goal.returns
returns g c =
    let f = follows_on g.S.Sink.has_told _ _ c.args.self.now.servers _ _ _ _ _ _ _ _ _ _ c.wait-call.ensures (c.in-Some.ensures.servers ∙ c.in-Ok.ensures.1) c.in-Some.ensures.told c.follow.ensures in (f.0, inl f.1, f.2)
