use Rattle.std.proofs.Common.{◌∙◌}
use Rattle.l4_shell.specs.Sessions.{state}
use Rattle.l4_commands.proofs.InTurn.{in_size}
use Rattle.l4_shell.proofs.StraightLines.{carries_request, faults_as, refuses_line}
use Rattle.l4_shell.proofs.answering.Script.answer_other.Goals as goal

pub returns-in-Ok : goal.returns-in-Ok
returns-in-Ok g c = carries_request g.S.Sink.has_told _ _ _ c.args.bytes.now _ _ _ _ (c.in-Ok.ensures ∙ in_size _ _ _ _ c.page_size-size.ensures) c.carry_out.ensures.told c.carry_out.ensures.names

pub returns-in-Err : goal.returns-in-Err
returns-in-Err g c =
    refuses_line g.S.Sink.has_told (state c.args.self.now.session.kernel c.args.self.now.session.servers c.args.self.now.names) _ c.args.bytes.now c.in-Err.fault _ _ _ _ _ (faults_as c.args.bytes.now _ _ (c.in-Err.ensures ∙ in_size _ _ _ _ c.page_size-size.ensures)) c.script_code.ensures c.page_size-size.ensures c.unread_line.ensures
