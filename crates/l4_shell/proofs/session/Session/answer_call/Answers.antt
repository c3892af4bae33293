use Rattle.std.proofs.Common.{◌≡◌, ℕ, Option, option_map, subst}
use Rattle.l4_commands.specs.declared.requests.Request.TheVariants.{Enter}
use Rattle.l4_shell.specs.Sessions.{state}
use Rattle.l4_shell.proofs.StraightLines.{no_call, enters_call}
use Rattle.l4_shell.proofs.session.Session.answer_call.Goals as goal

pub returns-in-None : goal.returns-in-None
returns-in-None g c = λ request is.
    no_call g.S.Sink.has_told (state c.args.self.now.kernel c.args.self.now.servers c.args.names.now) _ c.args.bytes.now request _ _ _ _
    (subst (λ (o : Option ℕ). option_map (λ n. Enter n c.args.call.now) o ≡ request) c.in-None.is is) c.script_code.ensures c.page_size.ensures c.unread_line.ensures

pub returns-in-Some : goal.returns-in-Some
returns-in-Some g c = λ request is.
    enters_call g.S.Sink.has_told _ _ c.args.names.now _ _ c.args.bytes.now _ request _ _
    (subst (λ (o : Option ℕ). option_map (λ n. Enter n c.args.call.now) o ≡ request) c.in-Some.is is) c.enter_and_follow.ensures
